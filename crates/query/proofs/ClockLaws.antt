-- The range of the clock, test by test as the code makes them. Assumes nothing.
use Prim.Native.Nat.{◌<◌, ◌≤◌, ℕ}
use borrow.Author.Tests.{le-leb, lt-leb}
use lib.Dec.{leb}
use mathlib.Core.Bool.{false}
use mathlib.Core.Path.{◌≡◌}
use Rattle.calendar.specs.Calendar.{days_in}
use Rattle.query.specs.Authority.{in_range}

module _ (y d h : ℕ) where
  pub year_low : y < 1 → false ≡ in_range (record { year = y; day = d; hour = h })
  unfolding in_range
  year_low a = rw (lt-leb 1 y a)

  pub year_high : 1 ≤ y → 9999 < y → false ≡ in_range (record { year = y; day = d; hour = h })
  unfolding in_range
  year_high a b = rw (le-leb 1 y a, lt-leb y 9999 b)

  module _ (low : 1 ≤ y) (high : y ≤ 9999) where
    pub day_low : d < 1 → false ≡ in_range (record { year = y; day = d; hour = h })
    unfolding in_range
    day_low a = rw (le-leb 1 y low, le-leb y 9999 high, lt-leb 1 d a)

    pub day_high : 1 ≤ d → days_in y < d → false ≡ in_range (record { year = y; day = d; hour = h })
    unfolding in_range
    day_high a b = rw (le-leb 1 y low, le-leb y 9999 high, le-leb 1 d a, lt-leb d (days_in y) b)

    pub by_hour : 1 ≤ d → d ≤ days_in y → leb h 23 ≡ in_range (record { year = y; day = d; hour = h })
    unfolding in_range
    by_hour a b = rw (le-leb 1 y low, le-leb y 9999 high, le-leb 1 d a, le-leb d (days_in y) b)
