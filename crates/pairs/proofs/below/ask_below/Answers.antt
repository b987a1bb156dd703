-- `pairs::below::ask_below` meets its contract: the contract of ask twice, and the theorem of rows given further down. Assumes nothing.
use Rattle.pairs.proofs.BelowLaws.{asks_below}
use Rattle.pairs.proofs.below.ask_below.Goals as goal

pub returns : goal.returns
returns c = asks_below c.ask-first.ensures c.ask-second.ensures
