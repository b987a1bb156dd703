-- Dates as code reads them: what is written is one, its rank, and whether there is such a date. Assumes nothing.
use Prim.Native.Nat.{ℕ}
use mathlib.Core.Bool.{Bool, cond, false, not, true}
use mathlib.Core.List.{List}
use mathlib.Core.Option.{Option, map, none, some}
use mathlib.Core.Path.{◌∙◌, ◌≡◌, ap, refl, sym}
use native.Mathlib.Omega.{arith}
use Rattle.calendar.proofs.DateValues.{date_rank_lem, is_date_lem, written_date}
use Rattle.calendar.proofs.ReadingLaws.{date_at, date_missing, date_nothing}
use Rattle.calendar.specs.Calendar.{Date, date_rank, day_number, day_of_date, exists, pair_rank}
use Rattle.calendar.specs.DateText.{date_text, day_rank_of, is_date}
use Rattle.calendar.specs.Found.{date_read_of, ranked_at}
use Rattle.std.specs.Prelude.{None, Some}
use Rattle.lists.proofs.PairLaws.{pair_same}
use Rattle.lists.specs.Lists.{holds_of, there}
use Rattle.query.specs.Query.{is_missing_date}
use Rattle.text.specs.Reader.{Left, from}
use Rattle.text.specs.Words.{written_at}

-- ---- there is such a date where it has a rank

module _ (d : Date) (a : ℕ) where
  by_existing : (b : Bool) → exists d ≡ b → ranked_at a (date_rank d) ≡ ranked_at a (map (pair_rank d.year) (cond b (some (day_number d)) none))
  unfolding date_rank day_of_date
  by_existing b e = ap (λ (t : Bool). ranked_at a (map (pair_rank d.year) (cond t (some (day_number d)) none))) e

  ranked_exists : (e r : ℕ) → ranked_at a (date_rank d) ≡ Some (e, Some r) → exists d ≡ true
  ranked_exists e r h = go (exists d) refl
    where
      go : (b : Bool) → exists d ≡ b → exists d ≡ true
      go true k = k
      go false k = absurd (let f = (pair_same (sym (by_existing false k) ∙ h)).1 in let z : ◌≡◌ {A = ℕ} 0 1 = cc in omega (arith, z))

  unranked_missing : (e : ℕ) → ranked_at a (date_rank d) ≡ Some (e, None) → exists d ≡ false
  unranked_missing e h = go (exists d) refl
    where
      go : (b : Bool) → exists d ≡ b → exists d ≡ false
      go true k = absurd (let f = (pair_same (sym (by_existing true k) ∙ h)).1 in let z : ◌≡◌ {A = ℕ} 0 1 = cc in omega (arith, z))
      go false k = k

  ranked_not_nothing : {A : Type 0} → ranked_at a (date_rank d) ≡ None → A
  ranked_not_nothing h = go (exists d) refl
    where
      go : {A : Type 0} (b : Bool) → exists d ≡ b → A
      go true k = absurd (let f = sym (by_existing true k) ∙ h in let z : ◌≡◌ {A = ℕ} 0 1 = cc in omega (arith, z))
      go false k = absurd (let f = sym (by_existing false k) ∙ h in let z : ◌≡◌ {A = ℕ} 0 1 = cc in omega (arith, z))

-- ---- by position

-- what was read is a date that does not exist
abbrev missing_read : Option (Date × Left) → Bool
missing_read o = holds_of (λ r. not (exists r.0)) o

module _ (s : List ℕ) (at : ℕ) where
  missing_read_lem : is_missing_date (written_at s at) ≡ missing_read (date_text (from s at))
  unfolding is_missing_date holds_of
  missing_read_lem = ap (holds_of (λ x. not (exists x))) (written_date s at) ∙ go (date_text (from s at))
    where
      go : (o : Option (Date × Left)) → holds_of (λ x. not (exists x)) (map (λ x. x.0) o) ≡ missing_read o
      go none = unfold holds_of in refl
      go (some x) = unfold holds_of in refl

  -- a date that exists
  module _ (e r : ℕ) (h : date_read_of (date_text (from s at)) ≡ Some (e, Some r)) where
    pub ranked_date : is_date (written_at s at) ≡ true
    ranked_date = is_date_lem s at ∙ go (date_text (from s at)) h
      where
        go : (o : Option (Date × Left)) → date_read_of o ≡ Some (e, Some r) → there o ≡ true
        go none k = absurd (let z : ◌≡◌ {A = ℕ} 0 1 = cc in omega (arith, z))
        go (some x) k = unfold there in refl

    pub ranked_is : r ≡ day_rank_of (written_at s at)
    ranked_is = (date_at (date_text (from s at)) e r h).1 ∙ sym (date_rank_lem s at)

    pub ranked_there : is_missing_date (written_at s at) ≡ false
    ranked_there = missing_read_lem ∙ go (date_text (from s at)) h
      where
        go : (o : Option (Date × Left)) → date_read_of o ≡ Some (e, Some r) → missing_read o ≡ false
        go none k = absurd (let z : ◌≡◌ {A = ℕ} 0 1 = cc in omega (arith, z))
        go (some x) k = unfold holds_of in ap not (ranked_exists x.0 x.1.at e r k)

  -- a date that does not
  module _ (e : ℕ) (h : date_read_of (date_text (from s at)) ≡ Some (e, None)) where
    pub missing_date_lem : is_date (written_at s at) ≡ true
    missing_date_lem = is_date_lem s at ∙ go (date_text (from s at)) h
      where
        go : (o : Option (Date × Left)) → date_read_of o ≡ Some (e, None) → there o ≡ true
        go none k = absurd (let z : ◌≡◌ {A = ℕ} 0 1 = cc in omega (arith, z))
        go (some x) k = unfold there in refl

    pub missing_rank : 0 ≡ day_rank_of (written_at s at)
    missing_rank = (date_missing (date_text (from s at)) e h).1 ∙ sym (date_rank_lem s at)

    pub missing_there : is_missing_date (written_at s at) ≡ true
    missing_there = missing_read_lem ∙ go (date_text (from s at)) h
      where
        go : (o : Option (Date × Left)) → date_read_of o ≡ Some (e, None) → missing_read o ≡ true
        go none k = absurd (let z : ◌≡◌ {A = ℕ} 0 1 = cc in omega (arith, z))
        go (some x) k = unfold holds_of in ap not (unranked_missing x.0 x.1.at e k)

  -- no date
  module _ (h : date_read_of (date_text (from s at)) ≡ None) where
    unread : (o : Option (Date × Left)) → date_read_of o ≡ None → o ≡ none
    unread none k = refl
    unread (some x) k = ranked_not_nothing x.0 x.1.at k

    pub other_date : is_date (written_at s at) ≡ false
    unfolding there
    other_date = is_date_lem s at ∙ ap there (unread (date_text (from s at)) h)

    pub other_rank : 0 ≡ day_rank_of (written_at s at)
    other_rank = (date_nothing (date_text (from s at)) h).1 ∙ sym (date_rank_lem s at)

    pub other_there : is_missing_date (written_at s at) ≡ false
    unfolding holds_of
    other_there = missing_read_lem ∙ ap missing_read (unread (date_text (from s at)) h)
