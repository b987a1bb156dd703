-- `form::parts::RowItemItem::end` meets its contract. Assumes nothing.
use Rattle.form.proofs.FormForward.{forward_item}
use Rattle.form.specs.FormReader.{item}
use Rattle.text.proofs.ItemLaws.{dropped_goes}
use Rattle.form.proofs.parts.RowItemItem.end.Goals as goal

pub returns-clause-goes : goal.returns-clause-goes
returns-clause-goes c = dropped_goes item forward_item
