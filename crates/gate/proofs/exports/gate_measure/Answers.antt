-- `gate::exports::gate_measure` meets its contract, by that of `measure`. Assumes nothing.
use Rattle.gate.proofs.ExportLaws.{exports_measure}
use Rattle.gate.specs.Exports.{clock_at}
use Rattle.query.specs.HostClock.{clock_of}
use Rattle.gate.proofs.exports.gate_measure.Goals as goal

pub returns : goal.returns
unfolding clock_at clock_of
returns c = exports_measure _ _ _ _ _ _ c.measure-x.ensures c.store_measured.ensures
