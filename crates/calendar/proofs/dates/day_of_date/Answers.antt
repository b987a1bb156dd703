-- `calendar::dates::day_of_date` meets its contract: each test of the date in turn.
-- Assumes nothing.
use Prim.Native.Nat.{◌+◌}
use mathlib.Core.Path.{◌∙◌, ◌≡◌, sym}
use native.Mathlib.Omega.{arith}
use Rattle.calendar.proofs.DayLaws.{day_high, day_low, is_date_lem, month_high, month_low, no_year, spans}
use Rattle.calendar.specs.Calendar.{month_days}
use Rattle.calendar.proofs.dates.day_of_date.Goals.{After-first_days-after}
use Rattle.calendar.proofs.dates.day_of_date.Goals as goal

pub returns-then-not-year_held : goal.returns-then-not-year_held
returns-then-not-year_held c = no_year c.args.year c.args.month c.args.day (sym c.year_held.ensures ∙ c.if-not-year_held.true)

pub returns-then-month-lt1 : goal.returns-then-month-lt1
returns-then-month-lt1 c = month_low c.args.year c.args.month c.args.day (sym c.year_held.ensures ∙ c.if-not-year_held.false)
    c.if-month-lt1.true

pub returns-then-month-gt12 : goal.returns-then-month-gt12
returns-then-month-gt12 c = month_high c.args.year c.args.month c.args.day (sym c.year_held.ensures ∙ c.if-not-year_held.false)
    c.if-month-lt1.false c.if-month-gt12.true

pub returns-then-day-lt1 : goal.returns-then-day-lt1
returns-then-day-lt1 c = day_low c.args.year c.args.month c.args.day (sym c.year_held.ensures ∙ c.if-not-year_held.false)
    c.if-month-lt1.false c.if-month-gt12.false c.if-day-lt1.true

-- the days behind the month are those before it and its own
apart : (c : After-first_days-after) → c.first_days-after.result ≡ c.first_days-before.result + month_days c.args.year c.args.month
apart c =
    spans c.args.year c.args.month c.is_leap-leap_year.result c.first_days-before.result c.first_days-after.result
    c.is_leap-leap_year.ensures c.first_days-before.ensures c.first_days-after.ensures c.if-month-lt1.false c.if-month-gt12.false

pub overflow_sub-after : goal.overflow_sub-after
overflow_sub-after c = omega (arith, apart c)

pub returns-then-day-after : goal.returns-then-day-after
returns-then-day-after c = day_high c.args.year c.args.month c.args.day (sym c.year_held.ensures ∙ c.if-not-year_held.false)
    c.if-month-lt1.false c.if-month-gt12.false c.if-day-lt1.false (omega (arith, apart (goal.at.returns-then-day-after c).After-first_days-after, c.if-day-after.true))

pub returns : goal.returns
returns c = is_date_lem c.args.year c.args.month c.args.day (sym c.year_held.ensures ∙ c.if-not-year_held.false)
    c.if-month-lt1.false c.if-month-gt12.false c.if-day-lt1.false (omega (arith, apart (goal.at.returns c).After-first_days-after, c.if-day-after.false))
    c.is_leap-leap_year.result c.is_leap-leap_year.ensures c.first_days-before.result c.first_days-before.ensures
