-- `gate::exports::gate_ask` meets its contract, by that of `ask`. Assumes nothing.
use Rattle.gate.proofs.ExportLaws.{exports_ask}
use Rattle.gate.specs.Exports.{clock_at}
use Rattle.query.specs.HostClock.{clock_of}
use Rattle.gate.proofs.exports.gate_ask.Goals as goal

pub returns : goal.returns
unfolding clock_at clock_of
returns c = exports_ask _ _ _ _ _ _ _ _ c.ask-x.ensures c.store_answered.ensures
