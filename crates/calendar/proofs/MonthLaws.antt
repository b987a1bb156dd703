-- Months in a row, whatever their lengths: the days before each, and the date of the n-th day. Assumes nothing.
use Prim.Native.Nat.{◌+◌, ◌-◌, ◌<◌, ◌≤◌, suc, suc-le-suc, zero, ℕ}
use borrow.Author.Tests.{le-leb, leb-false, leb-true, lt-leb}
use lib.Dec.{leb}
use lib.ListN.{get_or, length, take}
use lib.Seq.{take_all}
use mathlib.Core.Bool.{Bool, cond, false, true}
use mathlib.Core.List.{List, [], ◌∷◌}
use mathlib.Core.Option.{some}
use mathlib.Core.Path.{◌≡◌, ap, refl, subst, sym}
use mir.Val.{bool_byte}
use native.Mathlib.Nat.{add-zero, le_of_suc-le-suc, not-suc-le-zero, zero-add}
use native.Mathlib.Omega.{arith}
use Rattle.calendar.specs.Calendar.{date_from, days_in, leap, month_days, months, total}

-- the days of the first i + 1 months are those of the first i, and the month behind them
pub total_take_suc : (ks : List ℕ) (i : ℕ) → i < length ks → total (take (suc i) ks) ≡ total (take i ks) + get_or ks i 0
unfolding total
total_take_suc [] i h = absurd (not-suc-le-zero h)
total_take_suc (k ∷ ks) zero h = omega arith
total_take_suc (k ∷ ks) (suc i) h = omega (arith, total_take_suc ks i (le_of_suc-le-suc h))

pub total_take_le : (ks : List ℕ) (i : ℕ) → total (take i ks) ≤ total ks
unfolding total
total_take_le [] zero = omega arith
total_take_le [] (suc i) = omega arith
total_take_le (k ∷ ks) zero = omega arith
total_take_le (k ∷ ks) (suc i) = omega (arith, total_take_le ks i)

-- day n of months in a row is day `day` of the month at `place`
pub record Landing (ks : List ℕ) (n : ℕ) : Type 0 where
  pub place : ℕ
  pub day : ℕ
  pub inside : place < length ks
  pub low : 1 ≤ day
  pub high : day ≤ get_or ks place 0
  pub sums : total (take place ks) + day ≡ n

pub landing : (ks : List ℕ) (n : ℕ) → 1 ≤ n → n ≤ total ks → Landing ks n
unfolding total
landing [] n h k = absurd (omega arith)
landing (m ∷ ks) n h k = go (leb n m) refl (landing ks (n - m))
  where
    go : (b : Bool) → leb n m ≡ b → (1 ≤ n - m → n - m ≤ total ks → Landing ks (n - m)) → Landing (m ∷ ks) n
    go true e behind =
        record { place = 0; day = n; inside = omega arith; low = h; high = leb-true n m e; sums = omega arith }
    go false e behind =
        let later : m < n = leb-false n m e in
        let l : Landing ks (n - m) = behind (omega arith) (omega arith) in
        record {
          place = suc l.place;
          day = l.day;
          inside = suc-le-suc l.inside;
          low = l.low;
          high = l.high;
          sums = omega arith;
        }

-- the date of that day
pub date_from_at :
    (y m : ℕ) (ks : List ℕ) (i d : ℕ) → i < length ks → 1 ≤ d → d ≤ get_or ks i 0
    → date_from y m ks (total (take i ks) + d) ≡ some (record { year = y; month = m + i; day = d })
unfolding date_from total
date_from_at y m [] i d h a b = absurd (not-suc-le-zero h)
date_from_at y m (k ∷ ks) zero d h a b = rw (zero-add d, le-leb d k b, add-zero m)
date_from_at y m (k ∷ ks) (suc i) d h a b =
    let t : ℕ = total (take i ks) in
    let later : k < k + t + d = omega arith in
    let behind : k + t + d - k ≡ t + d = omega arith in
    let counted : m + 1 + i ≡ m + suc i = omega arith in
    rw (lt-leb (k + t + d) k later, behind, ← counted) (date_from_at y (m + 1) ks i d (le_of_suc-le-suc h) a b)

-- a leap year's row is row 1
pub bit_low : (l : Bool) → bool_byte l ≤ 1
bit_low true = omega arith
bit_low false = omega arith

-- the months of a year
module _ (l : Bool) where
  pub twelve : length (months l) ≡ 12
  unfolding months
  twelve = refl

  -- the twelve together are the year
  pub full_year : (k : ℕ) → 12 ≤ k → total (months l) ≡ total (take k (months l))
  full_year k h = sym (ap total (take_all k (months l) (omega (arith, twelve))))

-- a leap year has 366 days
pub leap_days : (l : Bool) → l ≡ true → 366 ≡ total (months l)
unfolding total months
leap_days l e = rw e

-- a common year has 365
pub common_days : (l : Bool) → l ≡ false → 365 ≡ total (months l)
unfolding total months
common_days l e = rw e

-- the months of a given year
module _ (y : ℕ) where
  -- the days up to the end of month m are those before it and its own
  pub month_span :
      (m : ℕ) → 1 ≤ m → m ≤ 12 → total (take m (months (leap y))) ≡ total (take (m - 1) (months (leap y))) + month_days y m
  unfolding month_days
  month_span m h k =
      let counted : suc (m - 1) ≡ m = omega arith in
      subst (λ (j : ℕ). total (take j (months (leap y))) ≡ total (take (m - 1) (months (leap y))) + get_or (months (leap y)) (m - 1) 0) counted
      (total_take_suc (months (leap y)) (m - 1) (omega (arith, twelve (leap y))))

  -- the days of a year's months together are the days in the year
  pub days_in_year : total (months (leap y)) ≡ days_in y
  unfolding days_in total months
  days_in_year = go (leap y)
    where
      go : (l : Bool) → total (months l) ≡ cond l 366 365
      go true = refl
      go false = refl

  pub days_in_few : days_in y ≤ 366
  unfolding days_in
  days_in_few = go (leap y)
    where
      go : (l : Bool) → cond l 366 365 ≤ 366
      go true = omega arith
      go false = omega arith

  pub days_few : (k : ℕ) → total (take k (months (leap y))) ≤ 366
  days_few k = omega (arith, total_take_le (months (leap y)) k, days_in_year, days_in_few)
