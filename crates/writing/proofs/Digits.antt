-- The decimal digits of a number, the last one behind the others. Assumes nothing.
use Prim.Native.Nat.{◌%◌, ◌*◌, ◌+◌, ◌/◌, ◌<◌, ◌^◌, ◌≤◌, suc, zero, ℕ}
use mathlib.Core.Bool.{Bool, false, true}
use mathlib.Core.Path.{◌≡◌, refl}
use mathlib.Core.List.{[], ◌++◌, ◌∷◌}
use native.Mathlib.Omega.{arith}
use borrow.Author.Tests.{le-ltb, lt-ltb}
use lib.ListN.{length, length-append}
use lib.Dec.{ltb}
use Rattle.text.specs.Numbers.{decimal, digits_of}

-- a number below 10 is one digit
pub decimal_one : (n : ℕ) → n < 10 → decimal n ≡ (48 + n) ∷ []
unfolding decimal digits_of
decimal_one n h = rw (lt-ltb n 10 h, digits_of)

-- ten, to the power f + 1
bound : ℕ → ℕ
bound zero = 10
bound (suc f) = bound f * 10

-- with room for one digit more, the digits are the same
more : (f n : ℕ) → n < bound f → digits_of (suc f) n ≡ digits_of f n
unfolding digits_of bound
more zero n h =
    let e : n % 10 ≡ n = omega arith in
    rw (lt-ltb n 10 h, digits_of, e)
more (suc f) n h = go (ltb n 10) refl (more f (n / 10) (omega arith))
  where
    go : (t : Bool) → ltb n 10 ≡ t → digits_of (suc f) (n / 10) ≡ digits_of f (n / 10) → digits_of (suc (suc f)) n ≡ digits_of (suc f) n
    go true k ih = rw (k, digits_of)
    go false k ih = rw (k, digits_of, ih)

-- the digits of a number from 10 on: those of its tenth, and its last
pub decimal_more : (n : ℕ) → 10 ≤ n → n < 2 ^ 64 → decimal n ≡ decimal (n / 10) ++ (48 + n % 10) ∷ []
unfolding decimal digits_of bound
decimal_more n h l = rw (le-ltb n 10 h, digits_of, more 18 (n / 10) (omega arith))

short : (f n : ℕ) → length (digits_of f n) ≤ f + 1
unfolding digits_of
short zero n = omega arith
short (suc f) n = go (ltb n 10) refl (short f (n / 10))
  where
    go : (t : Bool) → ltb n 10 ≡ t → length (digits_of f (n / 10)) ≤ f + 1 → length (digits_of (suc f) n) ≤ suc f + 1
    go true k ih = rw (k, digits_of) (omega arith)
    go false k ih = rw (k, digits_of) (omega (arith, length-append (digits_of f (n / 10)) ((48 + n % 10) ∷ [])))

-- at most 20 digits
pub decimal_short : (n : ℕ) → length (decimal n) ≤ 20
unfolding decimal
decimal_short n = short 19 n
