-- `pairs::two::ask_both` meets its contract: the contract of ask twice, and the theorem of no difference. Assumes nothing.
use Rattle.pairs.proofs.BothLaws.{asks_both}
use Rattle.pairs.proofs.two.ask_both.Goals as goal

pub returns : goal.returns
returns c = asks_both c.ask-first.ensures c.ask-second.ensures
