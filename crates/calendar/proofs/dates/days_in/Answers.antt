-- `calendar::dates::days_in` meets its contract: the days of the months together are the days in the year.
-- Assumes nothing.
use mathlib.Core.Bool.{Bool}
use mathlib.Core.Path.{◌∙◌, ap}
use Rattle.calendar.proofs.MonthLaws.{days_in_year}
use Rattle.calendar.specs.Calendar.{months, total}
use Rattle.calendar.proofs.dates.days_in.Goals as goal

pub returns : goal.returns
returns c = c.year_days.ensures ∙ ap (λ (l : Bool). total (months l)) c.is_leap.ensures ∙ days_in_year c.args.year
