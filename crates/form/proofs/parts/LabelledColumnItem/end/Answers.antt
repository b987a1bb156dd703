-- `form::parts::LabelledColumnItem::end` meets its contract. Assumes nothing.
use Rattle.form.proofs.FormForward.{forward_labelled_column}
use Rattle.form.specs.FormReader.{labelled_column}
use Rattle.text.proofs.ItemLaws.{dropped_goes}
use Rattle.form.proofs.parts.LabelledColumnItem.end.Goals as goal

pub returns-clause-goes : goal.returns-clause-goes
returns-clause-goes c = dropped_goes labelled_column forward_labelled_column
