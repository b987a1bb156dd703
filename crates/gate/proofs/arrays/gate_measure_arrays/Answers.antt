-- `gate::arrays::gate_measure_arrays` meets its contract: the version is tested, then it is that of `measure_loaded`. Assumes nothing.
use Rattle.gate.proofs.ArrayLaws.{measure_held, measure_other}
use Rattle.gate.proofs.arrays.gate_measure_arrays.Goals as goal

pub returns-then-not-is_loaded : goal.returns-then-not-is_loaded
returns-then-not-is_loaded c = measure_other c.is_loaded.ensures c.if-not-is_loaded.true c.store_not_loaded.ensures

pub returns : goal.returns
returns c = measure_held c.is_loaded.ensures c.if-not-is_loaded.false c.clock_of-c.ensures c.measure_loaded-x.ensures c.store_measured.ensures
