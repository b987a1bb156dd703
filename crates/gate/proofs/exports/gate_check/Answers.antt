-- `gate::exports::gate_check` meets its contract, by that of `check`. Assumes nothing.
use Rattle.gate.proofs.exports.gate_check.Goals as goal

pub returns : goal.returns
returns c = c.store_checked.ensures _ c.check-x.ensures
