-- `form::parts::givens_end` meets its contract. Assumes nothing.
use mathlib.Core.Path.{◌∙◌}
use Rattle.form.specs.FormReader.{given_form}
use Rattle.text.proofs.ItemLaws.{dropped_many}
use Rattle.text.specs.Reader.{from}
use Rattle.form.proofs.parts.givens_end.Goals as goal

pub returns : goal.returns
returns c = c.many_end.ensures ∙ dropped_many given_form (from c.args.s.now c.args.at)
