-- `gate::explaining::gate_why` meets its contract, by that of `why`. Assumes nothing.
use Rattle.gate.proofs.ExplainLaws.{exports_why}
use Rattle.gate.proofs.explaining.gate_why.Goals as goal

pub returns : goal.returns
returns c = exports_why c.why-x.ensures c.store_told.ensures
