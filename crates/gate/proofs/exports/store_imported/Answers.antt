-- `gate::exports::store_imported` meets its contract. Assumes nothing.
use Rattle.gate.proofs.ExportLaws.{refused_length, stored_length}
use Rattle.import.specs.Outside.{imported_as}
use mathlib.Core.Path.{ap}
use Rattle.gate.proofs.exports.store_imported.Goals as goal

pub returns-in-Err : goal.returns-in-Err
returns-in-Err c = refused_length _ _ _ c.in-Err.r (ap imported_as c.in-Err.is) c.store_refusal.ensures

pub returns-in-Ok : goal.returns-in-Ok
returns-in-Ok c = stored_length _ _ c.in-Ok.len (ap imported_as c.in-Ok.is) c.store_five.ensures
