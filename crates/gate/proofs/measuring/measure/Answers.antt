-- `gate::measuring::measure` meets its contract: the document's refusal, or the measure over the arrays that hold it. Assumes nothing.
use Rattle.gate.proofs.LoadLaws.{measured_refused, told_accepted, told_refused}
use Rattle.loaded.proofs.Chain.{handed_on}
use Rattle.loaded.specs.Outside.{Measures}
use Rattle.gate.proofs.measuring.measure.Goals as goal

pub returns-in_err-hold : goal.returns-in_err-hold
returns-in_err-hold c = handed_on (Measures _ _ _) c.from_residual.ensures.1 (measured_refused _ _ _ _ (told_refused c.hold.ensures c.in_err-hold.was).0)

pub returns : goal.returns
returns c = c.measure_loaded.ensures (told_accepted c.hold.ensures c.in_ok-hold.was).holds
