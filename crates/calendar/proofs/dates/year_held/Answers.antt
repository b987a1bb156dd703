-- `calendar::dates::year_held` meets its contract.
-- Assumes nothing.
use Rattle.calendar.proofs.DayLaws.{year_high, year_low}
use Rattle.calendar.proofs.dates.year_held.Goals as goal

pub returns-then-year-lt1 : goal.returns-then-year-lt1
returns-then-year-lt1 c = year_low c.args.year c.if-year-lt1.true

pub returns : goal.returns
returns c = year_high c.args.year c.if-year-lt1.false
