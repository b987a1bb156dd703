-- A number that was printed in decimal is decimal, and spells the number: it reads back as itself. Assumes nothing.
use Prim.Native.Nat.{◌%◌, ◌*◌, ◌+◌, ◌-◌, ◌/◌, ◌<◌, ◌^◌, ◌≤◌, suc, zero, ℕ}
use borrow.Author.Tests.{le-leb, ltb-false, ltb-true, ne_eqb}
use lib.Dec.{ltb}
use lib.IntN.{neg_ℤ, pos}
use lib.ListN.{length, length-append}
use mathlib.Core.Bool.{Bool, cond, false, true}
use mathlib.Core.List.{List, [], ◌++◌, ◌∷◌}
use mathlib.Core.Option.{some}
use mathlib.Core.Path.{◌∙◌, ◌≡◌, ap, refl, sym}
use native.Mathlib.Nat.{mod-lt, mul_assoc, pow-suc}
use native.Mathlib.Numerals.{add-one}
use native.Mathlib.Omega.{arith}
use Rattle.lists.proofs.Tests.{and_left, and_right}
use Rattle.lists.specs.Lists.{all_of, there}
use Rattle.text.proofs.Integers.{Spells, is_decimal, magnitude_decimal, negative, place_value, rank_decimal, rank_opposite, unsigned}
use Rattle.text.proofs.NumberLaws.{rank_down_is, rank_up_is}
use Rattle.text.proofs.ReadBack.{Reads, number_reads}
use Rattle.text.specs.Bytes.{first_byte, is_digit, is_name_byte}
use Rattle.text.specs.Numbers.{decimal, digits_of, is_number, magnitude, no_leading_zero, rank, rank_down, rank_of, rank_up}
use Rattle.text.specs.Words.{read_number}

-- ---- digits and one more behind them

last_place : (d : ℕ) (ds : List ℕ) → place_value (ds ++ (d ∷ [])) ≡ place_value ds * 10 + (d - 48)
unfolding place_value
last_place d [] = omega arith
last_place d (x ∷ ds) =
    rw (length-append ds (d ∷ []), add-one, pow-suc) (omega (arith, last_place d ds, mul_assoc (x - 48) (10 ^ length ds) 10))

all_last : (d : ℕ) (ds : List ℕ) → all_of is_digit ds ≡ true → is_digit d ≡ true → all_of is_digit (ds ++ (d ∷ [])) ≡ true
unfolding all_of
all_last d [] h k = rw k
all_last d (x ∷ ds) h k = rw (and_left (is_digit x) _ h) (all_last d ds (and_right (is_digit x) _ h) k)

digit_of : (n : ℕ) → n < 10 → is_digit (48 + n) ≡ true
unfolding is_digit
digit_of n h = rw (le-leb 48 (48 + n) (omega arith), le-leb (48 + n) 57 (omega arith))

-- ---- the digits of a number

-- a number with a digit less has less fuel
fewer : (fuel n : ℕ) → n < 10 ^ suc (suc fuel) → n / 10 < 10 ^ suc fuel
fewer fuel n h = omega (arith, pow-suc 10 (suc fuel))

-- they are digits
digits_of_digits : (fuel n : ℕ) → all_of is_digit (digits_of fuel n) ≡ true
unfolding digits_of all_of
digits_of_digits zero n = rw (digit_of (n % 10) (mod-lt n (omega arith)))
digits_of_digits (suc fuel) n = go (ltb n 10) refl (digits_of_digits fuel (n / 10))
  where
    go : (t : Bool) → ltb n 10 ≡ t → all_of is_digit (digits_of fuel (n / 10)) ≡ true → all_of is_digit (cond t ((48 + n) ∷ []) (digits_of fuel (n / 10) ++ ((48 + n % 10) ∷ []))) ≡ true
    go true e r = rw (digit_of n (ltb-true n 10 e))
    go false e r = all_last (48 + n % 10) (digits_of fuel (n / 10)) r (digit_of (n % 10) (mod-lt n (omega arith)))

-- they spell the number, where there is fuel for each of them
digits_of_value : (fuel n : ℕ) → n < 10 ^ suc fuel → place_value (digits_of fuel n) ≡ n
unfolding digits_of place_value
digits_of_value zero n h = omega arith
digits_of_value (suc fuel) n h = go (ltb n 10) refl (digits_of_value fuel (n / 10))
  where
    go : (t : Bool) → ltb n 10 ≡ t → (n / 10 < 10 ^ suc fuel → place_value (digits_of fuel (n / 10)) ≡ n / 10) → place_value (cond t ((48 + n) ∷ []) (digits_of fuel (n / 10) ++ ((48 + n % 10) ∷ []))) ≡ n
    go true e r = omega arith
    go false e r = last_place (48 + n % 10) (digits_of fuel (n / 10)) ∙ omega (arith, r (fewer fuel n h))

-- and the first is no 0, unless the number is 0
digits_of_first : (fuel n : ℕ) → 0 < n → n < 10 ^ suc fuel → (b : ℕ) × (bs : List ℕ) × (digits_of fuel n ≡ b ∷ bs) × (b ≡ 48 → ⊥)
unfolding digits_of
digits_of_first zero n p h = (48 + n % 10, [], refl, λ z. absurd (omega arith))
digits_of_first (suc fuel) n p h = go (ltb n 10) refl (digits_of_first fuel (n / 10))
  where
    go : (t : Bool) → ltb n 10 ≡ t → (0 < n / 10 → n / 10 < 10 ^ suc fuel → (b : ℕ) × (bs : List ℕ) × (digits_of fuel (n / 10) ≡ b ∷ bs) × (b ≡ 48 → ⊥))
        → (b : ℕ) × (bs : List ℕ) × (cond t ((48 + n) ∷ []) (digits_of fuel (n / 10) ++ ((48 + n % 10) ∷ [])) ≡ b ∷ bs) × (b ≡ 48 → ⊥)
    go true e r = (48 + n, [], refl, λ z. absurd (omega arith))
    go false e r = let q = r (omega (arith, ltb-false n 10 e)) (fewer fuel n h) in (q.0, q.1 ++ ((48 + n % 10) ∷ []), ap (λ (l : List ℕ). l ++ ((48 + n % 10) ∷ [])) q.2, q.3)

digits_of_leads : (n : ℕ) (t : Bool) → ltb 0 n ≡ t → n < 10 ^ 20 → no_leading_zero (digits_of 19 n) ≡ true
unfolding no_leading_zero digits_of
digits_of_leads n true e h = let q = digits_of_first 19 n (ltb-true 0 n e) h in rw (q.2, ne_eqb q.0 48 q.3)
digits_of_leads n false e h = let z : n ≡ 0 = omega (arith, ltb-false 0 n e) in rw z

-- ---- a number below 10^20, as it is printed

module _ (n : ℕ) (small : n < 10 ^ 20) where
  pub decimal_value : place_value (decimal n) ≡ n
  unfolding decimal
  decimal_value = digits_of_value 19 n small

  pub decimal_decimal : is_decimal (decimal n) ≡ true
  unfolding is_decimal decimal
  decimal_decimal = rw (digits_of_digits 19 n) (digits_of_leads n (ltb 0 n) refl small)

  pub decimal_magnitude : magnitude (decimal n) ≡ some n
  decimal_magnitude = magnitude_decimal (decimal n) decimal_decimal ∙ ap some decimal_value

  -- it spells the number, and with `-` in front the opposite of one above 0
  pub decimal_spells : Spells (decimal n) (pos n)
  decimal_spells = unsigned decimal_decimal (ap pos (sym decimal_value))

  pub decimal_spells_minus : 0 < n → Spells (45 ∷ decimal n) (neg_ℤ (pos n))
  decimal_spells_minus h = negative decimal_decimal (omega (arith, decimal_value)) (ap (λ (m : ℕ). neg_ℤ (pos m)) (sym decimal_value))

-- what is printed has the rank of what was printed
pub decimal_rank : (n : ℕ) → n < 2 ^ 63 → rank (decimal n) ≡ some (rank_of n)
unfolding rank_of
decimal_rank n h =
    rank_decimal (decimal n) (decimal_decimal n (omega arith)) ∙ ap rank_up (decimal_value n (omega arith)) ∙ rank_up_is n h

pub decimal_rank_minus : (n : ℕ) → 0 < n → n ≤ 2 ^ 63 → rank (45 ∷ decimal n) ≡ some (2 ^ 63 - n)
decimal_rank_minus n p h =
    rank_opposite (decimal n) (decimal_decimal n (omega arith)) ∙ ap rank_down (decimal_value n (omega arith)) ∙ rank_down_is n (λ z. absurd (omega arith)) h

pub decimal_number : (n : ℕ) → n < 2 ^ 63 → is_number (decimal n) ≡ true
unfolding is_number there
decimal_number n h = rw (decimal_rank n h)

pub decimal_number_minus : (n : ℕ) → 0 < n → n ≤ 2 ^ 63 → is_number (45 ∷ decimal n) ≡ true
unfolding is_number there
decimal_number_minus n p h = rw (decimal_rank_minus n p h)

-- and is read as the number, where no name byte follows
pub decimal_reads : (n : ℕ) (rest : List ℕ) → n < 2 ^ 63 → is_name_byte (first_byte rest) ≡ false → Reads (λ (k : ℕ). k) read_number (decimal n ++ rest) (rank_of n) rest
decimal_reads n rest h k = number_reads (decimal n) rest (rank_of n) (decimal_rank n h) k

pub decimal_reads_minus : (n : ℕ) (rest : List ℕ) → 0 < n → n ≤ 2 ^ 63 → is_name_byte (first_byte rest) ≡ false
    → Reads (λ (k : ℕ). k) read_number ((45 ∷ decimal n) ++ rest) (2 ^ 63 - n) rest
decimal_reads_minus n rest p h k = number_reads (45 ∷ decimal n) rest (2 ^ 63 - n) (decimal_rank_minus n p h) k
