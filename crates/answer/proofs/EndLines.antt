-- How long the end line of an answer is, and how it grows with the counts. For the reserve. Assumes nothing.
use Prim.Native.Nat.{◌%◌, ◌*◌, ◌+◌, ◌/◌, ◌<◌, ◌≤◌, suc, zero, ℕ}
use borrow.Author.Tests.{ltb-false, ltb-true}
use lib.Dec.{ltb}
use lib.ListN.{length, length-append}
use mathlib.Core.Bool.{Bool, cond, false, true}
use mathlib.Core.List.{[], ◌++◌, ◌∷◌}
use mathlib.Core.Path.{◌≡◌, refl}
use native.Mathlib.Nat.{le_refl}
use native.Mathlib.Omega.{arith}
use Rattle.answer.specs.Answer.{end_line}
use Rattle.text.specs.Bytes.{ascii}
use Rattle.text.specs.Numbers.{decimal, digits_of}

-- ---- digits, with so much fuel

one_at_least : (fuel n : ℕ) → 1 ≤ length (digits_of fuel n)
unfolding digits_of
one_at_least zero n = le_refl 1
one_at_least (suc fuel) n = go (ltb n 10)
  where
    go : (b : Bool) → 1 ≤ length (cond b ((48 + n) ∷ []) (digits_of fuel (n / 10) ++ ((48 + n % 10) ∷ [])))
    go true = le_refl 1
    go false = omega (arith, length-append (digits_of fuel (n / 10)) ((48 + n % 10) ∷ []))

-- a number of one digit
one_digit : (fuel n : ℕ) → n < 10 → length (digits_of fuel n) ≤ 1
unfolding digits_of
one_digit zero n h = le_refl 1
one_digit (suc fuel) n h = go (ltb n 10) refl
  where
    go : (b : Bool) → ltb n 10 ≡ b → length (cond b ((48 + n) ∷ []) (digits_of fuel (n / 10) ++ ((48 + n % 10) ∷ []))) ≤ 1
    go true p = le_refl 1
    go false p = absurd (omega (arith, h, ltb-false n 10 p))

-- one digit more for a number ten times as large
more_digits : (fuel j m : ℕ) → ((n : ℕ) → n < m → length (digits_of fuel n) ≤ j) → (n : ℕ) → n < 10 * m → length (digits_of (suc fuel) n) ≤ j + 1
unfolding digits_of
more_digits fuel j m h n p = go (ltb n 10)
  where
    go : (b : Bool) → length (cond b ((48 + n) ∷ []) (digits_of fuel (n / 10) ++ ((48 + n % 10) ∷ []))) ≤ j + 1
    go true = omega arith
    go false = omega (arith, length-append (digits_of fuel (n / 10)) ((48 + n % 10) ∷ []), h (n / 10) (omega (arith, p)))

-- a larger number has no fewer digits
digits_more : (fuel m n : ℕ) → m ≤ n → length (digits_of fuel m) ≤ length (digits_of fuel n)
unfolding digits_of
digits_more zero m n h = le_refl 1
digits_more (suc fuel) m n h = go (ltb m 10) refl (ltb n 10) refl (digits_more fuel (m / 10) (n / 10) (omega (arith, h)))
  where
    go : (a : Bool) → ltb m 10 ≡ a → (b : Bool) → ltb n 10 ≡ b → length (digits_of fuel (m / 10)) ≤ length (digits_of fuel (n / 10))
        → length (cond a ((48 + m) ∷ []) (digits_of fuel (m / 10) ++ ((48 + m % 10) ∷ []))) ≤ length (cond b ((48 + n) ∷ []) (digits_of fuel (n / 10) ++ ((48 + n % 10) ∷ [])))
    go true e true f rest = le_refl 1
    go true e false f rest = omega (arith, length-append (digits_of fuel (n / 10)) ((48 + n % 10) ∷ []))
    go false e true f rest = absurd (omega (arith, h, ltb-false m 10 e, ltb-true n 10 f))
    go false e false f rest = omega (arith, length-append (digits_of fuel (m / 10)) ((48 + m % 10) ∷ []), length-append (digits_of fuel (n / 10)) ((48 + n % 10) ∷ []), rest)

-- and no more than it counts, and one
digits_few : (fuel n : ℕ) → length (digits_of fuel n) ≤ 1 + n
unfolding digits_of
digits_few zero n = omega arith
digits_few (suc fuel) n = go (ltb n 10) refl (digits_few fuel (n / 10))
  where
    go : (b : Bool) → ltb n 10 ≡ b → length (digits_of fuel (n / 10)) ≤ 1 + n / 10 → length (cond b ((48 + n) ∷ []) (digits_of fuel (n / 10) ++ ((48 + n % 10) ∷ []))) ≤ 1 + n
    go true e rest = omega arith
    go false e rest = omega (arith, length-append (digits_of fuel (n / 10)) ((48 + n % 10) ∷ []), rest, ltb-false n 10 e)

-- ---- the end line

pub end_length : (p w u : ℕ) → length (end_line p w u) ≡ 9 + length (decimal p) + length (decimal w) + length (decimal u)
unfolding end_line
end_length p w u = omega (
  arith,
  length-append (ascii "(end " ++ decimal p ++ 32 ∷ decimal w ++ 32 ∷ decimal u) (ascii ")\n"),
  length-append (ascii "(end " ++ decimal p ++ 32 ∷ decimal w) (32 ∷ decimal u),
  length-append (ascii "(end " ++ decimal p) (32 ∷ decimal w),
  length-append (ascii "(end ") (decimal p),
)

-- that of n rows, all passed
pub end_passed : (n : ℕ) → length (end_line n 0 0) ≡ 11 + length (decimal n)
end_passed n = omega (arith, end_length n 0 0, zero_one)
  where
    zero_one : length (decimal 0) ≡ 1
    zero_one = unfold decimal digits_of in refl

pub end_short : (n : ℕ) → n < 10000 → length (end_line n 0 0) ≤ 15
unfolding decimal
end_short n h = omega (arith, end_passed n, more_digits 18 3 1000 (more_digits 17 2 100 (more_digits 16 1 10 (one_digit 16))) n h)

-- an end line is longer than that of the same rows all passed by no more than a byte for each row that is not
pub end_cost : (p w u : ℕ) → length (end_line p w u) ≤ length (end_line (p + w + u) 0 0) + (w + u)
end_cost p w u = omega (arith, end_length p w u, end_length (p + w + u) 0 0, more, few w, few u, zero_one)
  where
    more : length (decimal p) ≤ length (decimal (p + w + u))
    more = unfold decimal in digits_more 19 p (p + w + u) (omega arith)

    few : (n : ℕ) → length (decimal n) ≤ 1 + n
    few n = unfold decimal in digits_few 19 n

    zero_one : 1 ≤ length (decimal 0)
    zero_one = unfold decimal in one_at_least 19 0
