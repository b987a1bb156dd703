-- `form::walks::item_end_at` meets its contract. Assumes nothing.
use mathlib.Core.Path.{◌∙◌, sym}
use Rattle.form.proofs.WalkSteps.{item_bracket_end, item_plain_end}
use Rattle.text.specs.Walking.{written_end_at}
use Rattle.form.proofs.walks.item_end_at.Goals as goal

pub returns-then-is_labelled : goal.returns-then-is_labelled
returns-then-is_labelled c = c.cell_end.ensures ∙ sym (item_bracket_end c.args.line.now c.args.at (sym c.is_labelled.ensures ∙ c.if-is_labelled.true))

pub returns : goal.returns
unfolding written_end_at
returns c = c.written_end.ensures ∙ sym (item_plain_end c.args.line.now c.args.at (sym c.is_labelled.ensures ∙ c.if-is_labelled.false))
