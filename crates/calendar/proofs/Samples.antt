-- Dates at the edges of months and years, and the values of cells, as one theorem over a list of tests that compute. Assumes nothing.
use Prim.Native.Nat.{ℕ}
use lib.Dec.{eqb}
use mathlib.Core.Bool.{Bool, ◌&&◌, ◌||◌, not, true}
use mathlib.Core.List.{List, [], ◌∷◌}
use mathlib.Core.Path.{◌≡◌, refl}
use Rattle.calendar.proofs.DayLaws.{on}
use Rattle.calendar.specs.Calendar.{Date, date_of_day, day_of_date, exists}
use Rattle.calendar.specs.CellValues.{cell_value, is_cell_value}
use Rattle.calendar.specs.Computing.{computing}
use Rattle.calendar.specs.DateText.{date_text}
use Rattle.lists.specs.Lists.{all_of, holds_of, there}
use Rattle.text.specs.Amounts.{is_range}
use Rattle.text.specs.Bytes.{ascii}
use Rattle.text.specs.Reader.{whole}

abbrev same : Date → Date → Bool
same a b = eqb a.year b.year && (eqb a.month b.month && eqb a.day b.day)

-- the date is day n of its year, and the day is that date's
abbrev is_day : ℕ → ℕ → ℕ → ℕ → Bool
is_day y m d n = holds_of (eqb n) (day_of_date (on y m d)) && holds_of (same (on y m d)) (date_of_day y n)

abbrev no_date : ℕ → ℕ → ℕ → Bool
no_date y m d = not (exists (on y m d))

-- the text is a date's, and there is such a date, or there is not
abbrev is_text : List ℕ → ℕ → ℕ → ℕ → Bool
is_text bs y m d = holds_of (λ x. same (on y m d) x && exists x) (whole date_text bs)

abbrev no_such : List ℕ → Bool
no_such bs = holds_of (λ x. not (exists x)) (whole date_text bs)

abbrev no_text : List ℕ → Bool
no_text bs = not (there (whole date_text bs))

-- the text is the value of a cell, or is none
abbrev a_value : List ℕ → Bool
a_value bs = is_cell_value bs && there (whole cell_value bs)

abbrev no_value : List ℕ → Bool
no_value bs = not (is_cell_value bs || there (whole cell_value bs))

pub samples : all_of (λ t. t)
    (is_day 1 1 1 1
    ∷ is_day 9999 12 31 365
    ∷ is_day 2023 2 28 59
    ∷ is_day 2023 3 1 60
    ∷ is_day 2024 2 29 60
    ∷ is_day 2024 12 31 366
    ∷ is_day 2000 2 29 60
    ∷ is_day 1900 3 1 60
    ∷ no_date 1900 2 29
    ∷ no_date 2023 2 29
    ∷ no_date 2024 4 31
    ∷ no_date 2024 0 1
    ∷ no_date 2024 13 1
    ∷ no_date 2024 1 0
    ∷ no_date 0 1 1
    ∷ no_date 10000 1 1
    ∷ is_text (ascii "(2024 2 29)") 2024 2 29
    ∷ a_value (ascii "x")
    ∷ a_value (ascii "7")
    ∷ a_value (ascii "(1 5)")
    ∷ a_value (ascii "(2023 2 29)")
    ∷ not (is_range (ascii "(2024 2 29)"))
    ∷ no_value (ascii "(1 x)")
    ∷ no_value (ascii "(1 2 x)")
    ∷ no_value (ascii "(1 2 3 4)")
    ∷ no_value (ascii "((1 2 3) x)")
    ∷ no_such (ascii "(2023 2 29)")
    ∷ no_such (ascii "(-2023 2 28)")
    ∷ no_text (ascii "(2024 02 29)")
    ∷ no_text (ascii "(2024 2)")
    ∷ no_text (ascii "2024 2 29")
    ∷ [])
    ≡ true
unfolding computing
samples = refl
