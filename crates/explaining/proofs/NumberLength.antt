-- A number has at most 20 bytes: 19 digits and `-`. Assumes nothing.
use Prim.Native.Nat.{◌*◌, ◌+◌, ◌-◌, ◌^◌, ◌≤◌, suc, zero, ℕ}
use borrow.Author.Tests.{eqb-false, leb-false, leb-true, ltb-true, not-true}
use lib.Dec.{eqb, leb, ltb}
use lib.ListN.{length}
use mathlib.Core.Bool.{Bool, ◌&&◌, ◌||◌, cond, false, not, true}
use mathlib.Core.List.{List, [], ◌∷◌}
use mathlib.Core.Option.{Option, none-ne-some, some-injective, bind, none, some}
use mathlib.Core.Path.{◌≡◌, refl}
use native.Mathlib.Omega.{arith}
use Rattle.lists.proofs.Tests.{and_right, true_not_false}
use Rattle.lists.specs.Lists.{is_empty, there}
use Rattle.text.proofs.NumberLaws.{digit_range}
use Rattle.text.specs.Bytes.{is_digit}
use Rattle.text.specs.Numbers.{digits_from, is_number, magnitude, no_leading_zero, rank, rank_down, rank_of, rank_up}

-- n with so many zeros behind it
unfoldable tens : ℕ → ℕ → ℕ
tens n zero = n
tens n (suc k) = tens (n * 10) k

tens_more : (k m n : ℕ) → m ≤ n → tens m k ≤ tens n k
unfolding tens
tens_more zero m n h = h
tens_more (suc k) m n h = tens_more k (m * 10) (n * 10) (omega (arith, h))

-- what a test that was passed gave
passed : (b : Bool) (o : Option ℕ) (m : ℕ) → cond b o none ≡ some m → (b ≡ true) × (o ≡ some m)
passed true o m h = (refl, h)
passed false o m h = absurd (none-ne-some _ h)

-- k digits more make a number at least 10^k times as large
spelled : (k : ℕ) (ds : List ℕ) (n m : ℕ) → k ≤ length ds → digits_from n ds ≡ some m → tens n k ≤ m
unfolding digits_from tens
spelled zero [] n m l h = let e : n ≡ m = some-injective _ _ h in omega (arith, e)
spelled zero (d ∷ ds) n m l h = omega (arith, spelled zero ds (n * 10 + (d - 48)) m (omega arith) (passed (is_digit d) _ m h).1)
spelled (suc k) [] n m l h = absurd (omega (arith, l))
spelled (suc k) (d ∷ ds) n m l h =
    omega (arith, tens_more k (n * 10) (n * 10 + (d - 48)) (omega arith), spelled k ds (n * 10 + (d - 48)) m (omega (arith, l)) (passed (is_digit d) _ m h).1)

ten_nineteen : tens 1 19 ≡ 10 ^ 19
unfolding tens
ten_nineteen = refl

-- twenty digits, the first no 0, spell more than 2^63
too_long : (d : ℕ) (ds : List ℕ) (m : ℕ) → is_digit d ≡ true → (d ≡ 48 → ⊥) → digits_from (0 * 10 + (d - 48)) ds ≡ some m → m ≤ 2 ^ 63 → length ds ≤ 18
too_long d ds m digit nonzero h small = go (leb (length ds) 18) refl
  where
    go : (b : Bool) → leb (length ds) 18 ≡ b → length ds ≤ 18
    go true e = leb-true (length ds) 18 e
    go false e =
        let one : 1 ≤ 0 * 10 + (d - 48) = omega (arith, (digit_range d digit).0, nonzero) in
        absurd (omega (arith, ten_nineteen, tens_more 19 1 (0 * 10 + (d - 48)) one, spelled 19 ds (0 * 10 + (d - 48)) m (omega (arith, leb-false (length ds) 18 e)) h, small))

-- the digits of a natural number of at most 2^63
digits_short : (ds : List ℕ) (m : ℕ) → magnitude ds ≡ some m → m ≤ 2 ^ 63 → length ds ≤ 19
unfolding magnitude no_leading_zero digits_from
digits_short [] m h small = omega arith
digits_short (d ∷ []) m h small = omega arith
digits_short (d ∷ e ∷ ds) m h small =
    let s = passed (not (eqb d 48) || is_empty (e ∷ ds)) _ m h in
    let t = passed (is_digit d) _ m s.1 in
    omega (arith, too_long d (e ∷ ds) m t.0 (eqb-false d 48 (not-true (eqb d 48) (or_left (not (eqb d 48)) s.0))) t.1 small)
  where
    or_left : (a : Bool) → (a || is_empty (e ∷ ds)) ≡ true → a ≡ true
    or_left true k = refl
    or_left false k = k

-- the number that has a rank, upwards and downwards
up_small : (o : Option ℕ) → there (bind o rank_up) ≡ true → (m : ℕ) × (o ≡ some m) × (m ≤ 2 ^ 63)
unfolding there bind rank_up
up_small none h = true_not_false h refl
up_small (some m) h = (m, refl, go (ltb m (2 ^ 63)) refl h)
  where
    go : (b : Bool) → ltb m (2 ^ 63) ≡ b → there (cond b (some (rank_of m)) none) ≡ true → m ≤ 2 ^ 63
    go true e k = omega (arith, ltb-true m (2 ^ 63) e)
    go false e k = true_not_false k refl

down_small : (o : Option ℕ) → there (bind o rank_down) ≡ true → (m : ℕ) × (o ≡ some m) × (m ≤ 2 ^ 63)
unfolding there bind rank_down
down_small none h = true_not_false h refl
down_small (some m) h = (m, refl, go (ltb 0 m && leb m (2 ^ 63)) refl h)
  where
    go : (b : Bool) → (ltb 0 m && leb m (2 ^ 63)) ≡ b → there (cond b (some (2 ^ 63 - m)) none) ≡ true → m ≤ 2 ^ 63
    go true e k = leb-true m (2 ^ 63) (and_right (ltb 0 m) (leb m (2 ^ 63)) e)
    go false e k = true_not_false k refl

-- A NUMBER IS SHORT
pub number_short : (bs : List ℕ) → is_number bs ≡ true → length bs ≤ 20
unfolding is_number rank there
number_short [] h = omega arith
number_short (b ∷ bs) h = go (eqb b 45) h
  where
    go : (t : Bool) → there (cond t (bind (magnitude bs) rank_down) (bind (magnitude (b ∷ bs)) rank_up)) ≡ true → length (b ∷ bs) ≤ 20
    go true k = let x = down_small (magnitude bs) k in omega (arith, digits_short bs x.0 x.1 x.2)
    go false k = let x = up_small (magnitude (b ∷ bs)) k in omega (arith, digits_short (b ∷ bs) x.0 x.1 x.2)
