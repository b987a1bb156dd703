-- `calendar::cell_values::enclosed_end` meets its contract: a range stands there, or else a date may. Assumes nothing.
use mathlib.Core.Path.{◌∙◌, sym}
use Rattle.calendar.proofs.CellValues.{enclosed_date_end, enclosed_range_end}
use Rattle.calendar.proofs.cell_values.enclosed_end.Goals as goal

pub returns-in-Some : goal.returns-in-Some
returns-in-Some c = enclosed_range_end c.args.s.now c.args.at c.in-Some.e (sym c.range_end.ensures ∙ c.in-Some.is)

pub returns : goal.returns
returns c = c.date_end.ensures ∙ sym (enclosed_date_end c.args.s.now c.args.at (sym c.range_end.ensures ∙ c.in_default.is))
