-- `gate::arrays::gate_ask_arrays` meets its contract: the version is tested, then it is that of `ask_loaded`. Assumes nothing.
use Rattle.gate.proofs.ArrayLaws.{ask_held, ask_other}
use Rattle.gate.proofs.arrays.gate_ask_arrays.Goals as goal

pub returns-then-not-is_loaded : goal.returns-then-not-is_loaded
returns-then-not-is_loaded c = ask_other c.is_loaded.ensures c.if-not-is_loaded.true c.store_not_loaded.ensures

pub returns : goal.returns
returns c = ask_held c.is_loaded.ensures c.if-not-is_loaded.false c.clock_of-c.ensures c.ask_loaded-x.ensures c.store_answered.ensures
