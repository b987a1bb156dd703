-- `gate::asking::ask` meets its contract: the document's refusal, or the answer over the arrays that hold it. Assumes nothing.
use Rattle.gate.proofs.LoadLaws.{asks_refused, told_accepted, told_refused}
use Rattle.loaded.proofs.Chain.{handed_on}
use Rattle.loaded.specs.Outside.{Asks}
use Rattle.gate.proofs.asking.ask.Goals as goal

pub returns-in_err-hold : goal.returns-in_err-hold
returns-in_err-hold c = handed_on (Asks _ _ _ _ _) c.from_residual.ensures.1 (asks_refused _ _ _ _ (told_refused c.hold.ensures c.in_err-hold.was).0 _)

pub returns : goal.returns
returns c = c.ask_loaded.ensures (told_accepted c.hold.ensures c.in_ok-hold.was).holds
