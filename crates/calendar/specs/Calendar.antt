-- Meaning: the Gregorian calendar of the years 1 to 9999 (01, "Clock and authority"; 02, Q-14): the days of a year, counted from 1, its
-- months and its dates. Months are given by their lengths; the table of days before each month is the code's, and is held to these.
use Rattle.std.specs.Prelude.{◌%◌, ◌*◌, ◌+◌, ◌-◌, ◌/◌, ℕ, eqb, leb, get_or, take, Bool, ◌&&◌, ◌||◌, cond, not, List, [], ◌∷◌}
use Rattle.std.proofs.Math.Option.{Option, map, none, some}
use Rattle.text.specs.Bytes.{within}

-- a date, `(YEAR MONTH DAY)`; not every one exists
pub record Date : Type 0 where
  pub year : ℕ
  pub month : ℕ
  pub day : ℕ

-- a Gregorian leap year: divisible by 4, not by 100 unless by 400
unfoldable pub leap : ℕ → Bool
leap y = eqb (y % 4) 0 && (not (eqb (y % 100) 0) || eqb (y % 400) 0)

-- the number of days in a year
unfoldable pub days_in : ℕ → ℕ
days_in y = cond (leap y) 366 365

-- the lengths of the months from January on, of a leap year (true) or a common one
unfoldable pub months : Bool → List ℕ
months l = 31 ∷ cond l 29 28 ∷ 31 ∷ 30 ∷ 31 ∷ 30 ∷ 31 ∷ 31 ∷ 30 ∷ 31 ∷ 30 ∷ 31 ∷ []

-- the days of all these months together
unfoldable pub total : List ℕ → ℕ
total [] = 0
total (k ∷ ks) = k + total ks

-- the days in month m, from 1 to 12, of a year
unfoldable pub month_days : ℕ → ℕ → ℕ
month_days y m = get_or (months (leap y)) (m - 1) 0

-- the year is one of those that have dates
unfoldable pub year_held : ℕ → Bool
year_held y = within 1 9999 y

-- there is such a date
unfoldable pub exists : Date → Bool
exists d = year_held d.year && (within 1 12 d.month && within 1 (month_days d.year d.month) d.day)

-- the number of the date's day in its year: the days of the months before, and the day
unfoldable pub day_number : Date → ℕ
day_number d = total (take (d.month - 1) (months (leap d.year))) + d.day

-- the same, if there is such a date
unfoldable pub day_of_date : Date → Option ℕ
day_of_date d = cond (exists d) (some (day_number d)) none

-- the date of the n-th day, counted from the first of month m of year y; the lengths are those of month m and of the months behind it
unfoldable pub date_from : ℕ → ℕ → List ℕ → ℕ → Option Date
date_from y m [] n = none
date_from y m (k ∷ ks) n = cond (leb n k) (some (record { year = y; month = m; day = n })) (date_from y (m + 1) ks (n - k))

-- the date of the n-th day of year y, if there is such a day
unfoldable pub date_of_day : ℕ → ℕ → Option Date
date_of_day y n = cond (year_held y && within 1 (days_in y) n) (date_from y 1 (months (leap y)) n) none

-- the pair of a year and a day number as one number; 367 is more than any day number
unfoldable pub pair_rank : ℕ → ℕ → ℕ
pair_rank y n = y * 367 + n

-- the rank of a date, if there is such a date: ranks stand in the order of the dates
unfoldable pub date_rank : Date → Option ℕ
date_rank d = map (pair_rank d.year) (day_of_date d)

-- the date of a rank, if it is the rank of one
unfoldable pub date_of_rank : ℕ → Option Date
date_of_rank r = date_of_day (r / 367) (r % 367)
