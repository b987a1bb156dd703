-- The day of a date and the date of a day, test by test as the code makes them. Assumes nothing.
use Prim.Native.Nat.{◌*◌, ◌+◌, ◌-◌, ◌<◌, ◌≤◌, ℕ}
use borrow.Author.Tests.{le-leb, lt-leb, ltb-false, ltb-true}
use lib.Dec.{leb, ltb}
use lib.ListN.{get_or, take}
use mathlib.Core.Bool.{Bool, false, true}
use mathlib.Core.Option.{none, some}
use mathlib.Core.Path.{◌∙◌, ◌≡◌, ap, refl, subst, sym}
use native.Mathlib.Omega.{arith}
use Rattle.calendar.proofs.MonthLaws.{date_from_at, days_in_year, full_year, month_span, total_take_le, twelve}
use Rattle.calendar.specs.Calendar.{Date, date_from, date_of_day, date_rank, day_number, day_of_date, days_in, exists, leap, month_days, months, pair_rank, total, year_held}
use Rattle.calendar.specs.Found.{found_date}
use Rattle.text.specs.CodeEnds.{amount_of}
use Rattle.std.specs.Prelude.{None, Some}

-- the date of these numbers
abbrev pub on : ℕ → ℕ → ℕ → Date
on y m d = record { year = y; month = m; day = d }

module _ (y : ℕ) where
  pub year_low : y < 1 → false ≡ year_held y
  unfolding year_held
  year_low a = rw (lt-leb 1 y a)

  pub year_high : 1 ≤ y → leb y 9999 ≡ year_held y
  unfolding year_held
  year_high a = rw (le-leb 1 y a)

-- the days before month m and behind it, as the code has them, differ by the month's
pub spans :
    (y m : ℕ) (l : Bool) (b a : ℕ) → l ≡ leap y → b ≡ total (take (m - 1) (months l)) → a ≡ total (take m (months l)) → 1 ≤ m → m ≤ 12
    → a ≡ b + month_days y m
spans y m l b a e f g h k =
    g ∙ ap (λ (x : Bool). total (take m (months x))) e ∙ month_span y m h k
    ∙ ap (λ (n : ℕ). n + month_days y m) (sym (f ∙ ap (λ (x : Bool). total (take (m - 1) (months x))) e))

module _ (y m d : ℕ) where
  pub no_year : year_held y ≡ false → None ≡ amount_of (day_of_date (on y m d))
  unfolding day_of_date exists
  no_year h = rw h

  module _ (held : year_held y ≡ true) where
    pub month_low : m < 1 → None ≡ amount_of (day_of_date (on y m d))
    unfolding day_of_date exists
    month_low a = rw (held, lt-leb 1 m a)

    module _ (low : 1 ≤ m) where
      pub month_high : 12 < m → None ≡ amount_of (day_of_date (on y m d))
      unfolding day_of_date exists
      month_high a = rw (held, le-leb 1 m low, lt-leb m 12 a)

      module _ (high : m ≤ 12) where
        pub day_low : d < 1 → None ≡ amount_of (day_of_date (on y m d))
        unfolding day_of_date exists
        day_low a = rw (held, le-leb 1 m low, le-leb m 12 high, lt-leb 1 d a)

        module _ (first : 1 ≤ d) where
          pub day_high : month_days y m < d → None ≡ amount_of (day_of_date (on y m d))
          unfolding day_of_date exists
          day_high a = rw (held, le-leb 1 m low, le-leb m 12 high, le-leb 1 d first, lt-leb d (month_days y m) a)

          pub is_date_lem :
              d ≤ month_days y m → (l : Bool) → l ≡ leap y → (b : ℕ) → b ≡ total (take (m - 1) (months l))
              → Some (b + d) ≡ amount_of (day_of_date (on y m d))
          unfolding day_of_date exists day_number
          is_date_lem a l e b f =
              rw (held, le-leb 1 m low, le-leb m 12 high, le-leb 1 d first, le-leb d (month_days y m) a)
              (ap (λ (k : ℕ). Some (k + d)) (f ∙ ap (λ (x : Bool). total (take (m - 1) (months x))) e))

module _ (y n : ℕ) where
  pub no_such_year : year_held y ≡ false → None ≡ found_date (date_of_day y n)
  unfolding date_of_day
  no_such_year h = rw h

  module _ (held : year_held y ≡ true) where
    pub number_low : n < 1 → None ≡ found_date (date_of_day y n)
    unfolding date_of_day
    number_low a = rw (held, lt-leb 1 n a)

    module _ (low : 1 ≤ n) where
      pub number_high : (l : Bool) → l ≡ leap y → total (months l) < n → None ≡ found_date (date_of_day y n)
      unfolding date_of_day
      number_high l e a =
          let here : total (months (leap y)) < n = subst (λ (x : Bool). total (months x) < n) e a in
          let behind : days_in y < n = omega (arith, days_in_year y) in
          rw (held, le-leb 1 n low, lt-leb n (days_in y) behind)

      -- month m is the one that begins before day n and does not end before it
      pub landed :
          (m : ℕ) → 1 ≤ m → m ≤ 12 → total (take (m - 1) (months (leap y))) < n → n ≤ total (take m (months (leap y)))
          → date_of_day y n ≡ some (on y m (n - total (take (m - 1) (months (leap y)))))
      unfolding date_of_day month_days
      landed m a b before after =
          let ks = months (leap y) in
          let t : ℕ = total (take (m - 1) ks) in
          let in_year : n ≤ days_in y = omega (arith, total_take_le ks m, days_in_year y) in
          let in_month : n - t ≤ get_or ks (m - 1) 0 = omega (arith, month_span y m a b) in
          let counted : 1 + (m - 1) ≡ m = omega arith in
          let summed : t + (n - t) ≡ n = omega arith in
          rw (held, le-leb 1 n low, le-leb n (days_in y) in_year)
          (subst (λ (x : ℕ). date_from y 1 ks x ≡ some (on y m (n - t))) summed
          (date_from_at y 1 ks (m - 1) (n - t) (omega (arith, twelve (leap y))) (omega arith) in_month
          ∙ ap (λ (x : ℕ). some (on y x (n - t))) counted))

      pub is_found :
          (m : ℕ) → 1 ≤ m → m ≤ 12 → (l : Bool) → l ≡ leap y → (s : ℕ) → s ≡ total (take (m - 1) (months l)) → s < n → n ≤ total (take m (months l))
          → Some (record { year = y; month = m; day = n - s }) ≡ found_date (date_of_day y n)
      is_found m a b l e s f before after =
          let here : s ≡ total (take (m - 1) (months (leap y))) = f ∙ ap (λ (x : Bool). total (take (m - 1) (months x))) e in
          subst (λ (x : ℕ). Some (record { year = y; month = m; day = n - x }) ≡ found_date (date_of_day y n)) (sym here)
          (sym (ap found_date
          (landed m a b (subst (λ (x : ℕ). x < n) here before) (subst (λ (x : Bool). n ≤ total (take m (months x))) e after))))

-- where day n stands behind the end of month m, and still in the year, month m is not the last
pub not_last : (l : Bool) (m n : ℕ) → total (take m (months l)) < n → n ≤ total (months l) → m < 12
not_last l m n behind inside = go (ltb m 12) refl
  where
    go : (b : Bool) → ltb m 12 ≡ b → m < 12
    go true e = ltb-true m 12 e
    go false e = absurd (omega (arith, full_year l m (ltb-false m 12 e)))

module _ (d : Date) where
  pub is_rank : (n : ℕ) → day_of_date d ≡ some n → Some (d.year * 367 + n) ≡ amount_of (date_rank d)
  unfolding date_rank pair_rank
  is_rank n h = rw h

  pub no_rank : day_of_date d ≡ none → None ≡ amount_of (date_rank d)
  unfolding date_rank
  no_rank h = rw h
