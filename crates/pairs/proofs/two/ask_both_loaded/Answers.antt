-- `pairs::two::ask_both_loaded` meets its contract: the contract of ask_loaded twice, and the theorem of no difference. Assumes nothing.
use Rattle.pairs.proofs.BothLaws.{asks_both}
use Rattle.pairs.proofs.two.ask_both_loaded.Goals as goal

pub returns : goal.returns
returns c = record { ask_loaded_promise = c.ask_loaded-first.ensures; ask_loaded_promise_2 = c.ask_loaded-second.ensures; asked_alike = λ x y. asks_both x y }
