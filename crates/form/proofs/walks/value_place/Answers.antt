-- `form::walks::value_place` meets its contract. Assumes nothing.
use mathlib.Core.Path.{◌∙◌, sym}
use Rattle.form.proofs.WalkSteps.{place_bracket, place_plain}
use Rattle.form.proofs.walks.value_place.Goals as goal

pub returns-then-is_labelled : goal.returns-then-is_labelled
returns-then-is_labelled c = c.first_in.ensures ∙ sym (place_bracket c.args.line.now c.args.at (sym c.is_labelled.ensures ∙ c.if-is_labelled.true))

pub returns : goal.returns
returns c = sym (place_plain c.args.line.now c.args.at (sym c.is_labelled.ensures ∙ c.if-is_labelled.false))
