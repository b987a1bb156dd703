-- The type of a value by what code reads at its place, whether a range is in order, and whether a date exists. Assumes nothing.
use Prim.Native.Nat.{ℕ}
use lib.Dec.{leb}
use lib.ListN.{get_or}
use mathlib.Core.Bool.{Bool, ◌||◌, cond, false, true}
use mathlib.Core.List.{List}
use mathlib.Core.Option.{Option, map, none, some}
use mathlib.Core.Path.{◌∙◌, ◌≡◌, ap, refl, sym}
use native.Mathlib.Omega.{arith}
use Rattle.calendar.proofs.DateValues.{written_date}
use Rattle.calendar.specs.Calendar.{Date, date_rank, day_number, day_of_date, exists, pair_rank}
use Rattle.calendar.specs.DateText.{date_of, date_text, is_date}
use Rattle.calendar.specs.Found.{date_read_of, ranked_at}
use Rattle.condition.specs.Kinds.{Kind, dates, has_kind, names, numbers}
use Rattle.document.specs.AmountFaults.{date_exists, in_order}
use Rattle.document.specs.TypeFaults.{cell_has_kind}
use Rattle.lists.proofs.Tests.{neither_left, neither_right}
use Rattle.lists.specs.Lists.{there}
use Rattle.text.proofs.CellValues.{bracket_no_value}
use Rattle.text.proofs.Closings.{written_word}
use Rattle.text.proofs.RangeLaws.{is_range_lem, range_unopened, written_range}
use Rattle.text.specs.Amounts.{Range, is_range, range, range_of}
use Rattle.text.specs.CodeEnds.{end_of_range}
use Rattle.text.specs.Names.{is_name}
use Rattle.text.specs.Numbers.{is_number, is_value}
use Rattle.text.specs.Reader.{Left, from}
use Rattle.text.specs.Words.{word_at, written_at}
use Rattle.lists.proofs.PairLaws.{pair_same, triple_same}
use Rattle.std.proofs.lemmas.Option.{none-some}
use Rattle.std.specs.Prelude as prelude
use Rattle.std.specs.Prelude.{None, Some}

or-false : (b : Bool) → b ≡ (b || false)
or-false true = refl
or-false false = refl

module _ (s : List ℕ) (at : ℕ) where
  -- where no bracket opens, a value is a word
  pub word_kind : (k : Kind) → (get_or s at 0 ≡ 40 → ⊥) → has_kind k (word_at s at) ≡ cell_has_kind k (written_at s at)
  unfolding cell_has_kind there
  word_kind numbers h =
      ap (has_kind numbers) (sym (written_word s at h)) ∙ or-false (has_kind numbers (written_at s at))
      ∙ ap (λ (b : Bool). has_kind numbers (written_at s at) || b) (sym (is_range_lem s at ∙ ap there (range_unopened s at h)))
  word_kind names h = ap (has_kind names) (sym (written_word s at h))
  word_kind dates h = ap (has_kind dates) (sym (written_word s at h))

  -- where one opens, it is no name, it is a number only as a range, and a date where it is one
  pub bracket_name : get_or s at 0 ≡ 40 → cell_has_kind names (written_at s at) ≡ false
  unfolding cell_has_kind has_kind is_value
  bracket_name h = neither_left (is_name (written_at s at)) (is_number (written_at s at)) (bracket_no_value s at h)

  pub bracket_number : get_or s at 0 ≡ 40 → cell_has_kind numbers (written_at s at) ≡ is_range (written_at s at)
  unfolding cell_has_kind has_kind is_value
  bracket_number h = ap (λ (b : Bool). b || is_range (written_at s at)) (neither_right (is_name (written_at s at)) (is_number (written_at s at)) (bracket_no_value s at h))

  pub bracket_date : cell_has_kind dates (written_at s at) ≡ is_date (written_at s at)
  unfolding cell_has_kind has_kind
  bracket_date = refl

  -- a range by the ranks of its ends
  pub order_range : (e l h : ℕ) → end_of_range (range (from s at)) ≡ Some (e, l, h) → in_order (range_of (written_at s at)) ≡ leb l h
  unfolding in_order
  order_range e l h k = ap in_order (written_range s at) ∙ go (range (from s at)) k
    where
      go : (o : Option (Range × Left)) → end_of_range o ≡ Some (e, l, h) → in_order (map (λ x. x.0) o) ≡ leb l h
      go none q = let z : ◌≡◌ {A = ℕ} 0 1 = cc in absurd (omega arith)
      go (some r) q = let t = triple_same q in λ j. leb (t.1 j) (t.2 j)

  -- any other value
  pub order_none : end_of_range (range (from s at)) ≡ None → in_order (range_of (written_at s at)) ≡ true
  unfolding in_order
  order_none k = ap in_order (written_range s at) ∙ go (range (from s at)) k
    where
      go : (o : Option (Range × Left)) → end_of_range o ≡ None → in_order (map (λ x. x.0) o) ≡ true
      go none q = refl
      go (some r) q = let z : ◌≡◌ {A = ℕ} 0 1 = cc in absurd (omega arith)

-- ---- whether a date exists

-- a date has a rank where it exists
pub rank_there : (d : Date) → there (date_rank d) ≡ exists d
unfolding date_rank day_of_date there
rank_there d = go (exists d)
  where
    go : (b : Bool) → there (map (pair_rank d.year) (cond b (some (day_number d)) none)) ≡ b
    go true = refl
    go false = refl

ranked : (e : ℕ) (o : Option ℕ) (f r : ℕ) → ranked_at e o ≡ Some (f, Some r) → there o ≡ true
unfolding there
ranked e none f r h = absurd (none-some r (pair_same h).1)
ranked e (some k) f r h = refl

unranked : (e : ℕ) (o : Option ℕ) (f : ℕ) → ranked_at e o ≡ Some (f, None) → there o ≡ false
unfolding there
unranked e none f h = refl
unranked e (some k) f h = absurd (none-some k (sym (pair_same h).1))

undated : (e : ℕ) (o : Option ℕ) → ranked_at e o ≡ None → ⊥
undated e none h = let z : ◌≡◌ {A = ℕ} 0 1 = cc in omega arith
undated e (some k) h = let z : ◌≡◌ {A = ℕ} 0 1 = cc in omega arith

module _ (s : List ℕ) (at : ℕ) where
  pub date_real : (e r : ℕ) → date_read_of (date_text (from s at)) ≡ Some (e, Some r) → date_exists (date_of (written_at s at)) ≡ true
  unfolding date_exists
  date_real e r h = ap date_exists (written_date s at) ∙ go (date_text (from s at)) h
    where
      go : (o : Option (Date × Left)) → date_read_of o ≡ Some (e, Some r) → date_exists (map (λ x. x.0) o) ≡ true
      go none q = refl
      go (some x) q = sym (rank_there x.0) ∙ ranked x.1.at (date_rank x.0) e r q

  pub date_unreal : (e : ℕ) → date_read_of (date_text (from s at)) ≡ Some (e, None) → date_exists (date_of (written_at s at)) ≡ false
  unfolding date_exists
  date_unreal e h = ap date_exists (written_date s at) ∙ go (date_text (from s at)) h
    where
      go : (o : Option (Date × Left)) → date_read_of o ≡ Some (e, None) → date_exists (map (λ x. x.0) o) ≡ false
      go none q = let z : ◌≡◌ {A = ℕ} 0 1 = cc in absurd (omega arith)
      go (some x) q = sym (rank_there x.0) ∙ unranked x.1.at (date_rank x.0) e q

  -- any other value
  pub date_none : date_read_of (date_text (from s at)) ≡ None → date_exists (date_of (written_at s at)) ≡ true
  unfolding date_exists
  date_none h = ap date_exists (written_date s at) ∙ go (date_text (from s at)) h
    where
      go : (o : Option (Date × Left)) → date_read_of o ≡ None → date_exists (map (λ x. x.0) o) ≡ true
      go none q = refl
      go (some x) q = absurd (undated x.1.at (date_rank x.0) q)
