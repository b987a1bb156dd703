-- `form::parts::GivenItem::end` meets its contract. Assumes nothing.
use Rattle.form.proofs.FormForward.{forward_given}
use Rattle.form.specs.FormReader.{given_form}
use Rattle.text.proofs.ItemLaws.{dropped_goes}
use Rattle.form.proofs.parts.GivenItem.end.Goals as goal

pub returns-clause-goes : goal.returns-clause-goes
returns-clause-goes c = dropped_goes given_form forward_given
