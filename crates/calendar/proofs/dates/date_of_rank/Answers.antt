-- `calendar::dates::date_of_rank` meets its contract.
-- Assumes nothing.
use Rattle.calendar.specs.Calendar.{date_of_rank}
use Rattle.calendar.proofs.dates.date_of_rank.Goals as goal

pub returns : goal.returns
unfolding date_of_rank
returns c = c.date_of_day.ensures
