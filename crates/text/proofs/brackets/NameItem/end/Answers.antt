-- `text::brackets::NameItem::end` meets its contract. Assumes nothing.
use Rattle.text.proofs.Forward.{forward_word_that}
use Rattle.text.proofs.ItemLaws.{dropped_goes}
use Rattle.text.specs.Names.{is_name}
use Rattle.text.specs.Words.{name}
use Rattle.text.proofs.brackets.NameItem.end.Goals as goal

pub returns-clause-goes : goal.returns-clause-goes
returns-clause-goes c = dropped_goes name (forward_word_that is_name)
