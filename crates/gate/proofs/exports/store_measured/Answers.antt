-- `gate::exports::store_measured` meets its contract. Assumes nothing.
use Rattle.gate.proofs.ExportLaws.{refused_length, stored_length}
use Rattle.loaded.specs.Outside.{measured_as}
use mathlib.Core.Path.{ap}
use Rattle.gate.proofs.exports.store_measured.Goals as goal

pub returns-in-Err : goal.returns-in-Err
unfolding measured_as
returns-in-Err c = refused_length _ _ _ c.in-Err.r (ap measured_as c.in-Err.is) c.store_refusal.ensures

pub returns-in-Ok : goal.returns-in-Ok
unfolding measured_as
returns-in-Ok c = stored_length _ _ c.in-Ok.len (ap measured_as c.in-Ok.is) c.store_five.ensures
