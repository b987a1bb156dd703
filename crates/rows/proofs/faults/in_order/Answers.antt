-- `rows::faults::in_order` meets its contract: a range by its ends, and any other value is in order. Assumes nothing.
use mathlib.Core.Path.{◌∙◌, sym}
use Rattle.rows.proofs.RowTypes.{order_none, order_range}
use Rattle.rows.proofs.faults.in_order.Goals as goal

pub returns-in-Some : goal.returns-in-Some
returns-in-Some c = let entry = c.args in sym (order_range entry.line.now entry.at _ _ _ (sym c.read_range.ensures ∙ c.in-Some.is))

pub returns-in-None : goal.returns-in-None
returns-in-None c = let entry = c.args in sym (order_none entry.line.now entry.at (sym c.read_range.ensures ∙ c.in-None.is))
