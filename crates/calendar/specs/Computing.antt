-- One name that unfolds every definition here and in the crates below: `unfolding computing` lets a closed example compute.
use Rattle.lists.specs.Computing as lists
use Rattle.text.specs.Computing as text
use Rattle.calendar.specs.Calendar as Calendar
use Rattle.calendar.specs.Order as Order
use Rattle.calendar.specs.DateText as DateText
use Rattle.calendar.specs.CellValues as CellValues

unfoldable pub computing : Unit {0}
unfolding mathlib.Core.Option.bind mathlib.Core.List.flatten lists.computing text.computing Calendar.leap Calendar.days_in Calendar.months Calendar.total Calendar.month_days Calendar.year_held Calendar.exists Calendar.day_number Calendar.day_of_date Calendar.date_from Calendar.date_of_day Calendar.pair_rank Calendar.date_rank Calendar.date_of_rank Order.lexed Order.earlier_day Order.earlier DateText.natural DateText.date_parts DateText.date_text DateText.date_written DateText.date_of DateText.is_date DateText.day_rank_of CellValues.is_cell_value CellValues.enclosed_value CellValues.cell_value
computing = tt
