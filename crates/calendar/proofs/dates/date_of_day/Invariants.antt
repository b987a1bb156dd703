-- `calendar::dates::date_of_day` meets its contract. The loop's invariant: the month is one of the twelve, and it begins before the day.
-- The measure is what is left of the months. Assumes nothing.
use Prim.Native.Nat.{◌-◌, ◌<◌, ◌≤◌}
use lib.ListN.{take}
use Rattle.calendar.specs.Calendar.{months, total}
use Rattle.calendar.proofs.dates.date_of_day.Given as goal

abbrev pub invariant-loop-month : goal.invariant-loop-month
invariant-loop-month l = (1 ≤ l.month) × (l.month ≤ 12) × (total (take (l.month - 1) (months l.leap_year)) < l.day)

abbrev pub decreases-loop-month : goal.decreases-loop-month
decreases-loop-month l = 12 - l.month
