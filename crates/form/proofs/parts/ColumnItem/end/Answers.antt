-- `form::parts::ColumnItem::end` meets its contract. Assumes nothing.
use Rattle.form.proofs.FormForward.{forward_column}
use Rattle.form.specs.FormReader.{column}
use Rattle.text.proofs.ItemLaws.{dropped_goes}
use Rattle.form.proofs.parts.ColumnItem.end.Goals as goal

pub returns-clause-goes : goal.returns-clause-goes
returns-clause-goes c = dropped_goes column forward_column
