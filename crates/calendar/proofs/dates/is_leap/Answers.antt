-- `calendar::dates::is_leap` meets its contract.
-- Assumes nothing.
use Rattle.calendar.proofs.LeapLaws.{by_hundred, not_by_four, not_by_hundred}
use Rattle.calendar.proofs.dates.is_leap.Goals as goal

pub returns-then-year-ne0 : goal.returns-then-year-ne0
returns-then-year-ne0 c = not_by_four c.args.year c.if-year-ne0.true

pub returns-then-year-ne0-2 : goal.returns-then-year-ne0-2
returns-then-year-ne0-2 c = not_by_hundred c.args.year c.if-year-ne0.false c.if-year-ne0-2.true

pub returns : goal.returns
returns c = by_hundred c.args.year c.if-year-ne0.false c.if-year-ne0-2.false
