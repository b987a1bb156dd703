-- Names and numbers that are told at a glance: by their first byte and their length. Assumes nothing.
use Prim.Native.Nat.{◌*◌, ◌+◌, ◌-◌, ◌<◌, ◌^◌, ◌≤◌, suc, zero, ℕ}
use borrow.Author.Tests.{eqb-false, eqb-true, le-leb, leb-true, lt-ltb, ne_eqb}
use lib.Dec.{eqb, leb}
use lib.ListN.{drop, drop_of_length-le, get_or, length}
use lib.Seq.{drop-drop}
use mathlib.Core.Bool.{Bool, cond, false, not, true}
use mathlib.Core.List.{List, [], ◌∷◌}
use mathlib.Core.Option.{bind, some}
use mathlib.Core.Path.{◌∙◌, ◌≡◌, ap, refl, sym}
use native.Mathlib.Omega.{arith}
use Rattle.csv_text.specs.Scanned.{digit_bytes}
use Rattle.lists.proofs.Tests.{and_both, and_left, and_right, never, or_left, or_right}
use Rattle.lists.specs.Lists.{all_of, is_empty}
use Rattle.text.proofs.ByteLaws.{digit_name_byte, name_value}
use Rattle.text.proofs.Lefts.{drop_here, first_drop}
use Rattle.text.proofs.NumberLaws.{value_number}
use Rattle.text.proofs.WordLaws.{is_name_lem, name_byte_here, word_more, word_read}
use Rattle.text.specs.Bytes.{first_byte, is_digit, is_letter, is_name_byte}
use Rattle.text.specs.CodeEnds.{word_end}
use Rattle.text.specs.Numbers.{digits_from, is_value, magnitude, no_leading_zero, rank, rank_of, rank_up}
use Rattle.text.specs.Reader.{from}
use Rattle.text.specs.Words.{name_bytes, value, word_at}
use Rattle.std.specs.Prelude.{Some}

-- ---- bytes of a word, and digits, as a loop goes through them

pub small_letter : (b : ℕ) → 97 ≤ b → leb b 122 ≡ is_name_byte b
unfolding is_name_byte is_letter is_digit
small_letter b h = go (leb b 122) refl
  where
    no : (n : ℕ) → n < 97 → leb b n ≡ false
    no n k = never (leb b n) (λ e. absurd (omega (arith, h, k, leb-true b n e)))

    go : (t : Bool) → leb b 122 ≡ t → leb b 122 ≡ is_name_byte b
    go true e = unfold is_name_byte is_letter is_digit in rw (no 90 (omega arith), no 57 (omega arith), le-leb 97 b h, le-leb 65 b (omega (arith, h)), e)
    go false e = unfold is_name_byte is_letter is_digit in rw (no 90 (omega arith), no 57 (omega arith), le-leb 97 b h, le-leb 65 b (omega (arith, h)), le-leb 48 b (omega (arith, h)), e, ne_eqb b 45 (λ q. absurd (omega (arith, q, h))), ne_eqb b 95 (λ q. absurd (omega (arith, q, h))))

module _ (s : List ℕ) (at : ℕ) where
  pub word_none : length s ≤ at → word_at s at ≡ []
  unfolding name_bytes
  word_none h = rw (drop_of_length-le s h)

  pub digits_more : at < length s → is_digit (get_or s at 0) ≡ true → digit_bytes (drop at s) ≡ get_or s at 0 ∷ digit_bytes (drop (at + 1) s)
  unfolding digit_bytes
  digits_more h p = rw (drop_here s at h, p)

  pub digits_stop : at < length s → is_digit (get_or s at 0) ≡ false → digit_bytes (drop at s) ≡ []
  unfolding digit_bytes
  digits_stop h p = rw (drop_here s at h, p)

  pub digits_none : length s ≤ at → digit_bytes (drop at s) ≡ []
  unfolding digit_bytes
  digits_none h = rw (drop_of_length-le s h)

-- ---- the number that few digits spell

-- a with k zeros behind it
grow : ℕ → ℕ → ℕ
grow zero a = a
grow (suc k) a = grow k (a * 10)

grows : (k a : ℕ) → a ≤ grow k a
unfolding grow
grows zero a = omega arith
grows (suc k) a = omega (arith, grows k (a * 10))

digit_within : (d : ℕ) → is_digit d ≡ true → (48 ≤ d) × (d ≤ 57)
unfolding is_digit
digit_within d h = (leb-true 48 d (and_left (leb 48 d) (leb d 57) h), leb-true d 57 (and_right (leb 48 d) (leb d 57) h))

from_digit : (n d : ℕ) (ds : List ℕ) {m : ℕ} → is_digit d ≡ true → digits_from (n * 10 + (d - 48)) ds ≡ some m → digits_from n (d ∷ ds) ≡ some m
unfolding digits_from
from_digit n d ds e h = rw e h

spelled : (k n a : ℕ) (ds : List ℕ) → length ds ≤ k → n < a → all_of is_digit ds ≡ true → (m : ℕ) × (digits_from n ds ≡ some m) × (m < grow k a)
unfolding digits_from all_of grow
spelled zero n a [] l h p = (n, refl, omega (arith, h))
spelled (suc k) n a [] l h p = (n, refl, omega (arith, h, grows k (a * 10)))
spelled zero n a (d ∷ ds) l h p = absurd (omega (arith, l))
spelled (suc k) n a (d ∷ ds) l h p =
    let e = and_left (is_digit d) (all_of is_digit ds) p in
    let q = spelled k (n * 10 + (d - 48)) (a * 10) ds (omega (arith, l)) (omega (arith, h, (digit_within d e).0, (digit_within d e).1)) (and_right (is_digit d) (all_of is_digit ds) p) in
    (q.0, from_digit n d ds e q.1, q.2)

short_rank : (d : ℕ) (ds : List ℕ) {m : ℕ} → is_digit d ≡ true → no_leading_zero (d ∷ ds) ≡ true → digits_from 0 (d ∷ ds) ≡ some m → m < 2 ^ 63 → rank (d ∷ ds) ≡ some (rank_of m)
unfolding rank magnitude rank_up bind
short_rank d ds {m} e z f h = rw (ne_eqb d 45 (λ q. absurd (omega (arith, q, (digit_within d e).0))), z, f, lt-ltb m (2 ^ 63) h)

short_number : (d : ℕ) (ds : List ℕ) (k a : ℕ) → all_of is_digit (d ∷ ds) ≡ true → no_leading_zero (d ∷ ds) ≡ true → length ds ≤ k → d - 48 < a → grow k a ≤ 2 ^ 63 → is_value (d ∷ ds) ≡ true
unfolding all_of
short_number d ds k a p z l h g =
    let e = and_left (is_digit d) (all_of is_digit ds) p in
    let q = spelled k (0 * 10 + (d - 48)) a ds l (omega (arith, h)) (and_right (is_digit d) (all_of is_digit ds) p) in
    value_number (d ∷ ds) (rank_of q.0) (short_rank d ds e z (from_digit 0 d ds e q.1) (omega (arith, q.2, g)))

-- ---- digits that end at a position

digits_all : (bs : List ℕ) → all_of is_digit (digit_bytes bs) ≡ true
unfolding digit_bytes all_of
digits_all [] = refl
digits_all (b ∷ bs) = go (is_digit b) refl (digits_all bs)
  where
    go : (t : Bool) → is_digit b ≡ t → all_of is_digit (digit_bytes bs) ≡ true → all_of is_digit (cond t (b ∷ digit_bytes bs) []) ≡ true
    go true e ih = unfold all_of in and_both (is_digit b) (all_of is_digit (digit_bytes bs)) e ih
    go false e ih = unfold all_of in refl

digits_first : (bs : List ℕ) → 0 < length (digit_bytes bs) → first_byte (digit_bytes bs) ≡ first_byte bs
unfolding digit_bytes
digits_first [] h = refl
digits_first (b ∷ bs) h = go (is_digit b) h
  where
    go : (t : Bool) → 0 < length (cond t (b ∷ digit_bytes bs) []) → first_byte (cond t (b ∷ digit_bytes bs) []) ≡ b
    go true k = refl
    go false k = absurd (omega (arith, k))

-- no name byte stands behind them: they are the word
digits_word : (bs : List ℕ) → is_name_byte (first_byte (drop (length (digit_bytes bs)) bs)) ≡ false → name_bytes bs ≡ digit_bytes bs
unfolding digit_bytes name_bytes
digits_word [] h = refl
digits_word (b ∷ bs) h = go (is_digit b) refl (digits_word bs) h
  where
    go : (t : Bool) → is_digit b ≡ t → (is_name_byte (first_byte (drop (length (digit_bytes bs)) bs)) ≡ false → name_bytes bs ≡ digit_bytes bs)
        → is_name_byte (first_byte (drop (length (cond t (b ∷ digit_bytes bs) [])) (b ∷ bs))) ≡ false → cond (is_name_byte b) (b ∷ name_bytes bs) [] ≡ cond t (b ∷ digit_bytes bs) []
    go true e ih k = rw (digit_name_byte b e) (ap (λ (l : List ℕ). b ∷ l) (ih k))
    go false e ih k = rw k

letter_name_byte : (b : ℕ) → is_letter b ≡ true → is_name_byte b ≡ true
unfolding is_name_byte
letter_name_byte b h = rw h

module _ (s : List ℕ) (at : ℕ) where
  -- a letter stands there: the word goes on behind it
  pub letter_here : is_letter (get_or s at 0) ≡ true → at < length s
  letter_here h = name_byte_here s at (letter_name_byte (get_or s at 0) h)

  pub name_ended : {e : ℕ} → is_letter (get_or s at 0) ≡ true → e ≡ at + 1 + length (word_at s (at + 1)) → e - at ≤ 24 → Some e ≡ word_end (value (from s at))
  name_ended {e} h q l =
      let k : e ≡ at + length (word_at s at) = omega (arith, q, ap length (word_more s at (letter_name_byte (get_or s at 0) h))) in
      rw (word_read s at is_value (name_value (word_at s at) (is_name_lem s at h (omega (arith, k, l))))) (ap Some k)

  module _ {end : ℕ} (ends : end ≡ at + length (digit_bytes (drop at s))) (some_there : at < end) (stop : is_name_byte (get_or s end 0) ≡ false) where
    number_ended : (k a : ℕ) → end - at ≤ suc k → get_or s at 0 - 48 < a → grow k a ≤ 2 ^ 63 → (get_or s at 0 ≡ 48 → end - at ≡ 1) → word_end (value (from s at)) ≡ Some end
    number_ended k a l h g z = rw (word_read s at is_value (ap is_value whole ∙ fit (digit_bytes (drop at s)) refl (digits_all (drop at s)))) (ap Some (omega (arith, ends, ap length whole)))
      where
        whole : word_at s at ≡ digit_bytes (drop at s)
        whole = digits_word (drop at s) (ap is_name_byte (ap first_byte (drop-drop (length (digit_bytes (drop at s))) at s) ∙ first_drop s (at + length (digit_bytes (drop at s))) ∙ ap (λ (p : ℕ). get_or s p 0) (sym ends)) ∙ stop)

        fit : (ds : List ℕ) → digit_bytes (drop at s) ≡ ds → all_of is_digit ds ≡ true → is_value ds ≡ true
        fit [] e p = absurd (omega (arith, ends, some_there, ap length e))
        fit (d ∷ ds) e p =
            let f : d ≡ get_or s at 0 = sym (ap first_byte e) ∙ digits_first (drop at s) (omega (arith, ap length e)) ∙ first_drop s at in
            short_number d ds k a p (led f (eqb d 48) refl) (omega (arith, ends, l, ap length e)) (omega (arith, f, h)) g
          where
            lone : (os : List ℕ) → length os ≡ 0 → is_empty os ≡ true
            lone [] q = refl
            lone (o ∷ os) q = absurd (omega (arith, q))

            led : d ≡ get_or s at 0 → (t : Bool) → eqb d 48 ≡ t → no_leading_zero (d ∷ ds) ≡ true
            led f true q = unfold no_leading_zero in or_right (not (eqb d 48)) (is_empty ds) (lone ds (omega (arith, ends, ap length e, z (sym f ∙ eqb-true d 48 q))))
            led f false q = unfold no_leading_zero in or_left (not (eqb d 48)) (is_empty ds) (ap not q)

    -- 0 alone
    pub zero_ended : get_or s at 0 ≡ 48 → end - at ≡ 1 → word_end (value (from s at)) ≡ Some end
    unfolding grow
    zero_ended f l = number_ended 0 1 (omega (arith, l)) (omega (arith, f)) (omega arith) (λ z. l)

    -- at most 18 digits
    pub few_ended : (get_or s at 0 ≡ 48 → ⊥) → get_or s at 0 ≤ 57 → end - at < 19 → word_end (value (from s at)) ≡ Some end
    unfolding grow
    few_ended n m l = number_ended 17 10 (omega (arith, l)) (omega (arith, m)) (omega arith) (λ z. absurd (n z))

    -- at most 19 digits, the first no 9
    pub nineteen_ended : (get_or s at 0 ≡ 48 → ⊥) → (get_or s at 0 ≡ 57 → ⊥) → get_or s at 0 ≤ 57 → end - at < 20 → word_end (value (from s at)) ≡ Some end
    unfolding grow
    nineteen_ended n j m l = number_ended 18 9 (omega (arith, l)) (less (eqb (get_or s at 0) 57) refl) (omega arith) (λ z. absurd (n z))
      where
        less : (t : Bool) → eqb (get_or s at 0) 57 ≡ t → get_or s at 0 - 48 < 9
        less true e = absurd (j (eqb-true (get_or s at 0) 57 e))
        less false e = omega (arith, m, eqb-false (get_or s at 0) 57 e)

    -- the first is a digit
    pub first_most : get_or s at 0 ≤ 57
    first_most = go (digit_bytes (drop at s)) refl (digits_all (drop at s))
      where
        go : (ds : List ℕ) → digit_bytes (drop at s) ≡ ds → all_of is_digit ds ≡ true → get_or s at 0 ≤ 57
        go [] e p = absurd (omega (arith, ends, some_there, ap length e))
        go (d ∷ ds) e p =
            let f : d ≡ get_or s at 0 = sym (ap first_byte e) ∙ digits_first (drop at s) (omega (arith, ap length e)) ∙ first_drop s at in
            omega (arith, f, (digit_within d (and_left (is_digit d) (all_of is_digit ds) (unfold all_of in p))).1)
