-- `gate::arrays::gate_load_arrays` meets its contract, by that of `load`. Assumes nothing.
use Rattle.gate.proofs.LoadLaws.{exports_load}
use Rattle.gate.proofs.arrays.gate_load_arrays.Goals as goal

pub returns : goal.returns
returns c = exports_load c.load-x.result c.load-x.ensures (c.store_checked.ensures _ c.load-x.ensures.checks)
