-- `form::parts::item_end` meets its contract: a value stands there, or else `(v L)` may.
-- Assumes nothing.
use mathlib.Core.Path.{◌∙◌, sym}
use Rattle.form.proofs.PartLaws.{item_ends, item_unread}
use Rattle.form.proofs.parts.item_end.Goals as goal

pub returns-in-Some : goal.returns-in-Some
returns-in-Some c = item_ends c.args.s.now c.args.at c.in-Some.e (sym c.cell_value_end.ensures ∙ c.in-Some.is)

pub returns : goal.returns
returns c = c.labelled_item_end.ensures ∙ sym (item_unread c.args.s.now c.args.at (sym c.cell_value_end.ensures ∙ c.in_default.is))
