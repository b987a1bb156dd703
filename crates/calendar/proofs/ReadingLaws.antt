-- The reader of dates at a position, step by step as the code goes. Assumes nothing.
use Prim.Native.Nat.{◌+◌, ◌-◌, ◌<◌, ◌^◌, ◌≤◌, ℕ}
use lib.ListN.{get_or, length}
use mathlib.Core.List.{List}
use mathlib.Core.Option.{Option, bind, none, some}
use mathlib.Core.Path.{◌∙◌, ◌≡◌, ap, refl, sym}
use native.Mathlib.Omega.{arith}
use Rattle.calendar.proofs.DayLaws.{on}
use Rattle.calendar.specs.Calendar.{Date, date_rank}
use Rattle.calendar.specs.DateText.{date_parts, date_text, natural}
use Rattle.calendar.specs.Found.{date_read_of, ranked_at}
use Rattle.lists.specs.Lists.{or_zero}
use Rattle.lists.proofs.PairLaws.{pair_found, pair_missing, pair_same}
use Rattle.text.proofs.AnswerLaws.{answer_of, read_at, read_refused}
use Rattle.text.proofs.CodeLaws.{amount_is, amount_nothing, number_answer}
use Rattle.text.proofs.Forward.{Forward, forward_bind, forward_give, forward_number}
use Rattle.text.proofs.Lefts.{before_end}
use Rattle.text.proofs.ReaderLaws.{byte_at_read, byte_at_refused}
use Rattle.text.specs.Brackets.{bracketed, next}
use Rattle.text.specs.CodeEnds.{amount_of, end_of_number, word_end}
use Rattle.text.specs.Reader.{Left, Reader, from, give}
use Rattle.text.specs.Words.{read_number}
use Rattle.std.specs.Prelude as prelude
use Rattle.std.specs.Prelude.{None, Some}

-- a byte that the code reads stands before the end
pub byte_here : (s : List ℕ) (i b k : ℕ) → 1 ≤ k → b ≡ get_or s i 0 → b ≡ k → (get_or s i 0 ≡ k) × (i < length s)
byte_here s i b k h e q = let z : get_or s i 0 ≡ k = sym e ∙ q in (z, before_end s i (λ y. absurd (omega (arith, z, y))))

number_answer_lem : (o : Option (ℕ × Left)) → end_of_number o ≡ answer_of number_answer (λ (k : ℕ). k) o
number_answer_lem none = refl
number_answer_lem (some r) = refl

-- what an end and a number tell of a reader that goes forward, and what their absence tells
module _ (R : Reader ℕ) (p : Forward R) (s : List ℕ) (at : ℕ) where
  pub goes_to : {r : prelude.Option (ℕ × ℕ)} {e k : ℕ} → r ≡ end_of_number (R (from s at)) → r ≡ Some (e, k) → R (from s at) ≡ some (k, from s e)
  goes_to {r} {e} {k} h q =
      let f = read_at number_answer R (λ n. n) (λ n. 0) p s at e k (sym (number_answer_lem (R (from s at))) ∙ sym h ∙ q) in
      f.is ∙ ap (λ (n : ℕ). some (n, from s e)) f.made

  pub goes_nowhere : {r : prelude.Option (ℕ × ℕ)} → r ≡ end_of_number (R (from s at)) → r ≡ None → R (from s at) ≡ none
  goes_nowhere h q = read_refused number_answer R (λ n. n) (λ n. 0) p s at (sym (number_answer_lem (R (from s at))) ∙ sym h ∙ q)

pub forward_natural : Forward natural
unfolding natural
forward_natural = forward_bind read_number (λ k. give (k - 2 ^ 63)) forward_number (λ k. forward_give (k - 2 ^ 63))

-- ---- one number

module _ (s : List ℕ) (at : ℕ) where
  pub natural_read : (e k : ℕ) → read_number (from s at) ≡ some (k, from s e) → Some (e, k - 2 ^ 63) ≡ end_of_number (natural (from s at))
  unfolding natural
  natural_read e k h = rw h

  pub natural_low : (e k : ℕ) → read_number (from s at) ≡ some (k, from s e) → k < 2 ^ 63 → Some (e, 0) ≡ end_of_number (natural (from s at))
  natural_low e k h l = let z : 0 ≡ k - 2 ^ 63 = omega arith in ap (λ (n : ℕ). Some (e, n)) z ∙ natural_read e k h

  pub natural_none : read_number (from s at) ≡ none → None ≡ end_of_number (natural (from s at))
  unfolding natural
  natural_none h = rw h

-- ---- the date

module _ (s : List ℕ) (at : ℕ) where
  pub date_shut : (get_or s at 0 ≡ 40 → ⊥) → None ≡ date_read_of (date_text (from s at))
  unfolding date_text bracketed
  date_shut h = rw (byte_at_refused s at 40 h)

  module _ (opened : get_or s at 0 ≡ 40) where
    pub year_wrong : natural (from s (at + 1)) ≡ none → None ≡ date_read_of (date_text (from s at))
    unfolding date_text bracketed date_parts
    year_wrong h = rw (byte_at_read s at 40 opened, h)

    module _ (a y : ℕ) (first : natural (from s (at + 1)) ≡ some (y, from s a)) where
      pub month_wrong : next natural (from s a) ≡ none → None ≡ date_read_of (date_text (from s at))
      unfolding date_text bracketed date_parts
      month_wrong h = rw (byte_at_read s at 40 opened, first, h)

      module _ (b m : ℕ) (second : next natural (from s a) ≡ some (m, from s b)) where
        pub day_wrong : next natural (from s b) ≡ none → None ≡ date_read_of (date_text (from s at))
        unfolding date_text bracketed date_parts
        day_wrong h = rw (byte_at_read s at 40 opened, first, second, h)

        module _ (e d : ℕ) (third : next natural (from s b) ≡ some (d, from s e)) where
          pub date_open : (get_or s e 0 ≡ 41 → ⊥) → None ≡ date_read_of (date_text (from s at))
          unfolding date_text bracketed date_parts
          date_open h = rw (byte_at_read s at 40 opened, first, second, third, byte_at_refused s e 41 h)

          pub date_closed : (o : Option ℕ) → get_or s e 0 ≡ 41 → date_rank (on y m d) ≡ o → ranked_at (e + 1) o ≡ date_read_of (date_text (from s at))
          unfolding date_text bracketed date_parts
          date_closed o h q = rw (byte_at_read s at 40 opened, first, second, third, byte_at_read s e 41 h, q)

-- ---- the end alone, and the rank alone

-- the end and the rank, whether there is such a date or not
pub ranked_is : (e : ℕ) (o : Option ℕ) → ranked_at e o ≡ Some (e, amount_of o)
ranked_is e none = refl
ranked_is e (some r) = refl

-- the rank of the date that was read, if there is such a date
abbrev pub rank_read : Option (Date × Left) → ℕ
rank_read o = or_zero (bind o (λ r. date_rank r.0))

module _ (o : Option (Date × Left)) where
  -- what an end tells, and what is there or not there beside it
  pub date_told : (e : ℕ) (x : prelude.Option ℕ) → ◌≡◌ {A = prelude.Option (ℕ × prelude.Option ℕ)} (date_read_of o) (Some (e, x)) → (Some e ≡ word_end o) × (x ≡ amount_of (bind o (λ r. date_rank r.0)))
  unfolding bind
  date_told e x h = go o h
    where
      go : (o : Option (Date × Left)) → ◌≡◌ {A = prelude.Option (ℕ × prelude.Option ℕ)} (date_read_of o) (Some (e, x)) → (Some e ≡ word_end o) × (x ≡ amount_of (bind o (λ r. date_rank r.0)))
      go none k = pair_missing k
      go (some r) k = let q = pair_same (sym (ranked_is r.1.at (date_rank r.0)) ∙ k) in (ap Some (sym q.0), sym q.1)

  pub date_at : (e r : ℕ) → ◌≡◌ {A = prelude.Option (ℕ × prelude.Option ℕ)} (date_read_of o) (Some (e, Some r)) → (Some e ≡ word_end o) × (r ≡ rank_read o)
  unfolding or_zero
  date_at e r h = let t = date_told e (Some r) h in (t.0, sym (ap or_zero (amount_is (bind o (λ r. date_rank r.0)) r (sym t.1))))

  pub date_missing : (e : ℕ) → ◌≡◌ {A = prelude.Option (ℕ × prelude.Option ℕ)} (date_read_of o) (Some (e, None)) → (Some e ≡ word_end o) × (0 ≡ rank_read o)
  unfolding or_zero
  date_missing e h = let t = date_told e None h in (t.0, sym (ap or_zero (amount_nothing (bind o (λ r. date_rank r.0)) (sym t.1))))

  pub date_nothing : date_read_of o ≡ None → (None ≡ word_end o) × (0 ≡ rank_read o)
  unfolding bind or_zero
  date_nothing h = go o h
    where
      go : (o : Option (Date × Left)) → date_read_of o ≡ None → (None ≡ word_end o) × (0 ≡ rank_read o)
      go none k = (refl, refl)
      go (some r) k = pair_found (sym (ranked_is r.1.at (date_rank r.0)) ∙ k)
