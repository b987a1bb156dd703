-- Meaning: numbers (01, "Bracket texts"): decimal, from -2^63 to 2^63-1, no leading zeros, no `-0`. A number is held as its rank, its
-- distance from the least one: ranks stand in the order of the numbers, and none is negative.
use Rattle.std.specs.Prelude.{◌%◌, ◌*◌, ◌+◌, ◌-◌, ◌/◌, ◌^◌, suc, zero, ℕ, eqb, leb, ltb, Bool, ◌&&◌, ◌||◌, cond, false, not, List, [], ◌++◌, ◌∷◌}
use Rattle.std.proofs.Math.Option.{Option, bind, none, some}
use Rattle.text.specs.Bytes.{is_digit}
use Rattle.lists.specs.Lists.{is_empty, there}
use Rattle.text.specs.Names.{is_name}

-- the number that digits spell, behind a part that spells n; none where one is no digit
unfoldable pub digits_from : ℕ → List ℕ → Option ℕ
digits_from n [] = some n
digits_from n (d ∷ ds) = cond (is_digit d) (digits_from (n * 10 + (d - 48)) ds) none

-- one byte or more, the first no 0 unless it is the only one
unfoldable pub no_leading_zero : List ℕ → Bool
no_leading_zero [] = false
no_leading_zero (d ∷ ds) = not (eqb d 48) || is_empty ds

-- the natural number that the bytes spell, if they are digits without leading zeros
unfoldable pub magnitude : List ℕ → Option ℕ
magnitude ds = cond (no_leading_zero ds) (digits_from 0 ds) none

-- the rank of the natural number n
unfoldable pub rank_of : ℕ → ℕ
rank_of n = 2 ^ 63 + n

-- the rank of n, where n is at most 2^63-1
unfoldable pub rank_up : ℕ → Option ℕ
rank_up n = cond (ltb n (2 ^ 63)) (some (rank_of n)) none

-- the rank of -n, where n is from 1 to 2^63
unfoldable pub rank_down : ℕ → Option ℕ
rank_down n = cond (ltb 0 n && leb n (2 ^ 63)) (some (2 ^ 63 - n)) none

-- the rank of the number that the bytes spell, if they spell one: digits, or `-` (byte 45) and digits
unfoldable pub rank : List ℕ → Option ℕ
rank [] = none
rank (b ∷ bs) = cond (eqb b 45) (bind (magnitude bs) rank_down) (bind (magnitude (b ∷ bs)) rank_up)

-- the bytes spell a number
unfoldable pub is_number : List ℕ → Bool
is_number bs = there (rank bs)

-- the bytes of a name or of a number
abbrev pub Value : Type 0
Value = List ℕ

-- the `v` of a form: a name or a number
unfoldable pub is_value : Value → Bool
is_value bs = is_name bs || is_number bs

-- the decimal digits of n, at most `fuel` + 1 of them
unfoldable pub digits_of : ℕ → ℕ → List ℕ
digits_of zero n = (48 + n % 10) ∷ []
digits_of (suc fuel) n = cond (ltb n 10) ((48 + n) ∷ []) (digits_of fuel (n / 10) ++ ((48 + n % 10) ∷ []))

-- a natural number below 10^20 in decimal
unfoldable pub decimal : ℕ → List ℕ
decimal n = digits_of 19 n
