-- `calendar::dates::date_of_day` meets its contract. The loop's invariant: the month is one of the twelve, and it begins before the day.
-- The measure is what is left of the months. Assumes nothing.
use Prim.Native.Nat.{◌+◌, ◌-◌, ◌<◌, ℕ}
use lib.ListN.{take}
use mathlib.Core.Path.{◌∙◌, ◌≡◌, subst, sym}
use native.Mathlib.Omega.{arith}
use Rattle.calendar.proofs.DayLaws.{is_found, no_such_year, not_last, number_high, number_low}
use Rattle.calendar.specs.Calendar.{months, total}
use Rattle.calendar.proofs.dates.date_of_day.Goals.{In-loop-month}
use Rattle.calendar.proofs.dates.date_of_day.Goals as goal

pub returns-then-not-year_held : goal.returns-then-not-year_held
returns-then-not-year_held c = no_such_year c.args.year c.args.day (sym c.year_held.ensures ∙ c.if-not-year_held.true)

pub returns-then-day-lt1 : goal.returns-then-day-lt1
returns-then-day-lt1 c = number_low c.args.year c.args.day (sym c.year_held.ensures ∙ c.if-not-year_held.false) c.if-day-lt1.true

pub returns-then-day-year_days : goal.returns-then-day-year_days
returns-then-day-year_days c = number_high c.args.year c.args.day (sym c.year_held.ensures ∙ c.if-not-year_held.false) c.if-day-lt1.false
    c.is_leap-leap_year.result c.is_leap-leap_year.ensures (omega (arith, c.year_days.ensures, c.if-day-year_days.true))

pub loop-month-init : goal.loop-month-init
unfolding total
loop-month-init c = (omega arith, omega arith, omega arith)

-- the month at hand ends before the day, so it is not the last
more_months : (c : In-loop-month) → c.loop-month.month < 12
more_months c =
    not_last c.is_leap-leap_year.result c.loop-month.month c.args.day
    (omega (arith, c.first_days.ensures, c.loop-month-test.true)) (omega (arith, c.year_days.ensures, c.if-day-year_days.false))

pub overflow_add-month : goal.overflow_add-month
overflow_add-month c = omega (arith, more_months c)

pub loop-month-smaller : goal.loop-month-smaller
loop-month-smaller c = omega (arith, more_months c)

pub loop-month-preserved : goal.loop-month-preserved
loop-month-preserved c = let back : c.loop-month.month ≡ c.loop-month.month + 1 - 1 = omega arith in (
  omega arith,
  omega (arith, more_months c),
  subst (λ (m : ℕ). total (take m (months c.is_leap-leap_year.result)) < c.args.day) back (omega (arith, c.first_days.ensures, c.loop-month-test.true)),
)

pub overflow_sub-month : goal.overflow_sub-month
overflow_sub-month c = omega arith

pub overflow_sub-result : goal.overflow_sub-result
overflow_sub-result c = omega (arith, c.first_days-2.ensures, c.loop-month.invariant.2)

pub returns : goal.returns
returns c = is_found c.args.year c.args.day (sym c.year_held.ensures ∙ c.if-not-year_held.false) c.if-day-lt1.false
    c.loop-month.month c.loop-month.invariant.0 c.loop-month.invariant.1 c.is_leap-leap_year.result c.is_leap-leap_year.ensures c.first_days-2.result c.first_days-2.ensures
    (omega (arith, c.first_days-2.ensures, c.loop-month.invariant.2)) (omega (arith, c.first_days.ensures, c.loop-month-test.false))
