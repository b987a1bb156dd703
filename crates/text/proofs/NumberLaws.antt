-- The number that a word spells, as code goes through its digits. Assumes nothing.
use Prim.Native.Nat.{◌*◌, ◌+◌, ◌-◌, ◌<◌, ◌^◌, ◌≤◌, ℕ}
use borrow.Author.Tests.{le-leb, le-ltb, leb-true, lt-leb, lt-ltb, ne_eqb}
use lib.Dec.{leb}
use lib.ListN.{get_or, length}
use mathlib.Core.Bool.{Bool, false, not, true}
use mathlib.Core.List.{List, ◌∷◌}
use mathlib.Core.Option.{bind, none, some}
use mathlib.Core.Path.{◌≡◌, ap, refl}
use native.Mathlib.Omega.{arith}
use Rattle.lists.proofs.Tests.{and_left, and_right, or_right}
use Rattle.lists.specs.Lists.{there}
use Rattle.text.proofs.ByteLaws.{digit_name_byte, minus_name_byte}
use Rattle.text.proofs.Lefts.{skip_from}
use Rattle.text.proofs.WordLaws.{word_more, word_stop}
use Rattle.text.specs.Bytes.{is_digit, is_name_byte}
use Rattle.text.specs.Names.{is_name}
use Rattle.text.specs.Numbers.{digits_from, is_number, is_value, magnitude, no_leading_zero, rank, rank_down, rank_of, rank_up}
use Rattle.text.specs.Reader.{from}
use Rattle.text.specs.Words.{read_number, word, word_at}

pub digit_range : (d : ℕ) → is_digit d ≡ true → (48 ≤ d) × (d ≤ 57)
unfolding is_digit
digit_range d h = (leb-true _ _ (and_left (leb 48 d) (leb d 57) h), leb-true _ _ (and_right (leb 48 d) (leb d 57) h))

module _ (s : List ℕ) (at : ℕ) where
  pub zero_stop : is_name_byte (get_or s at 0) ≡ false → no_leading_zero (word_at s at) ≡ false
  unfolding no_leading_zero
  zero_stop h = rw (word_stop s at h)

  pub zero_none : is_name_byte (get_or s at 0) ≡ true → (get_or s at 0 ≡ 48 → ⊥) → no_leading_zero (word_at s at) ≡ true
  unfolding no_leading_zero
  zero_none h e = rw (word_more s at h, ne_eqb _ _ e)

  pub zero_first : (t : Bool) → is_name_byte (get_or s at 0) ≡ true → get_or s at 0 ≡ 48 → is_name_byte (get_or s (at + 1) 0) ≡ t → no_leading_zero (word_at s at) ≡ not t
  unfolding no_leading_zero
  zero_first true h e k = rw (word_more s at h, word_more s (at + 1) k, e)
  zero_first false h e k = rw (word_more s at h, word_stop s (at + 1) k, e)

  module _ (n : ℕ) where
    pub digits_digit : is_digit (get_or s at 0) ≡ true → digits_from n (word_at s at) ≡ digits_from (n * 10 + (get_or s at 0 - 48)) (word_at s (at + 1))
    unfolding digits_from
    digits_digit d = rw (word_more s at (digit_name_byte _ d), d, digits_from)

    pub digits_other : is_name_byte (get_or s at 0) ≡ true → is_digit (get_or s at 0) ≡ false → digits_from n (word_at s at) ≡ none
    unfolding digits_from
    digits_other h d = rw (word_more s at h, d, digits_from)

pub rank_up_is : (n : ℕ) → n < 2 ^ 63 → rank_up n ≡ some (2 ^ 63 + n)
unfolding rank_up rank_of
rank_up_is n h = rw (lt-ltb n (2 ^ 63) h)

pub rank_up_not : (n : ℕ) → 2 ^ 63 ≤ n → rank_up n ≡ none
unfolding rank_up
rank_up_not n h = rw (le-ltb n (2 ^ 63) h)

pub rank_down_is : (n : ℕ) → (n ≡ 0 → ⊥) → n ≤ 2 ^ 63 → rank_down n ≡ some (2 ^ 63 - n)
unfolding rank_down
rank_down_is n z h = rw (lt-ltb 0 n (omega arith), le-leb n (2 ^ 63) h)

pub rank_down_zero : rank_down 0 ≡ none
unfolding rank_down
rank_down_zero = refl

pub rank_down_not : (n : ℕ) → 2 ^ 63 < n → rank_down n ≡ none
unfolding rank_down
rank_down_not n h = rw (lt-ltb 0 n (omega arith), lt-leb n (2 ^ 63) h)

module _ (s : List ℕ) (at : ℕ) where
  -- a word goes on behind its `-`
  word_minus : get_or s at 0 ≡ 45 → word_at s at ≡ 45 ∷ word_at s (at + 1)
  word_minus e = rw (word_more s at (rw e minus_name_byte), e)

  pub rank_minus : get_or s at 0 ≡ 45 → rank (word_at s at) ≡ bind (magnitude (word_at s (at + 1))) rank_down
  unfolding rank
  rank_minus e = rw (word_minus e)

  -- and ends where what stands behind it ends
  pub end_minus : get_or s at 0 ≡ 45 → at + 1 + length (word_at s (at + 1)) ≡ at + length (word_at s at)
  end_minus e = omega (arith, ap length (word_minus e))

  pub rank_plain : (get_or s at 0 ≡ 45 → ⊥) → rank (word_at s at) ≡ bind (magnitude (word_at s at)) rank_up
  unfolding rank magnitude no_leading_zero bind
  rank_plain e = go (is_name_byte (get_or s at 0)) refl
    where
      go : (t : Bool) → is_name_byte (get_or s at 0) ≡ t → rank (word_at s at) ≡ bind (magnitude (word_at s at)) rank_up
      go true h = rw (word_more s at h, ne_eqb _ _ e)
      go false h = rw (word_stop s at h)

module _ (s : List ℕ) (at : ℕ) where
  -- the word at a position is read as a number if it has a rank
  pub number_read : (k : ℕ) → rank (word_at s at) ≡ some k → read_number (from s at) ≡ some (k, from s (at + length (word_at s at)))
  unfolding read_number word
  number_read k h = rw (h, skip_from)

  pub number_refused : rank (word_at s at) ≡ none → read_number (from s at) ≡ none
  unfolding read_number word
  number_refused h = rw h

module _ (w : List ℕ) where
  pub value_number : (k : ℕ) → rank w ≡ some k → is_value w ≡ true
  unfolding is_value is_number there
  value_number k h = rw h (or_right (is_name w) true refl)

  pub value_neither : is_name w ≡ false → rank w ≡ none → is_value w ≡ false
  unfolding is_value is_number there
  value_neither h k = rw (h, k)
