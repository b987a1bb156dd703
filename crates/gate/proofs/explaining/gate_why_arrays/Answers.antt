-- `gate::explaining::gate_why_arrays` meets its contract: the version is tested, then it is that of `why_loaded`. Assumes nothing.
use Rattle.gate.proofs.ExplainLaws.{why_held, why_other}
use Rattle.gate.proofs.explaining.gate_why_arrays.Goals as goal

pub returns-then-not-is_loaded : goal.returns-then-not-is_loaded
returns-then-not-is_loaded c = why_other c.is_loaded.ensures c.if-not-is_loaded.true c.store_not_loaded.ensures

pub returns : goal.returns
returns c = why_held c.is_loaded.ensures c.if-not-is_loaded.false c.why_loaded-x.ensures c.store_told.ensures
