-- `calendar::dates::first_days` meets its contract: an entry of the table by the table's rule, and the whole year behind its end.
-- Assumes nothing.
use mathlib.Core.Path.{◌∙◌}
use native.Mathlib.Omega.{arith}
use Rattle.calendar.proofs.MonthLaws.{bit_low, full_year}
use Rattle.calendar.proofs.TableLaws.{table, table_rule}
use Rattle.calendar.proofs.dates.first_days.Goals as goal

pub offset_bounds-row : goal.offset_bounds-row
offset_bounds-row c = omega (arith, bit_low c.args.leap_year)

pub bounds-row : goal.bounds-row
bounds-row c = omega (arith, bit_low c.args.leap_year)

pub returns-then-count-lt12 : goal.returns-then-count-lt12
unfolding table
returns-then-count-lt12 c = c.wide.ensures
    ∙ table_rule c.args.leap_year c.args.count c.if-count-lt12.true

pub returns : goal.returns
returns c = c.year_days.ensures ∙ full_year c.args.leap_year c.args.count c.if-count-lt12.false
