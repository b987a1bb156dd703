-- `calendar::dates::year_days` meets its contract.
-- Assumes nothing.
use Rattle.calendar.proofs.MonthLaws.{common_days, leap_days}
use Rattle.calendar.proofs.dates.year_days.Goals as goal

pub returns-then-leap_year : goal.returns-then-leap_year
returns-then-leap_year c = leap_days c.args.leap_year c.if-leap_year.true

pub returns : goal.returns
returns c = common_days c.args.leap_year c.if-leap_year.false
