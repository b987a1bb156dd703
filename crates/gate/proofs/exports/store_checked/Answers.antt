-- `gate::exports::store_checked` meets its contract. Assumes nothing.
use Rattle.gate.proofs.ExportLaws.{accepted_check, refused_check}
use Rattle.gate.proofs.exports.store_checked.Goals as goal

pub returns-in-Err : goal.returns-in-Err
returns-in-Err c doc h = refused_check doc _ _ _ _ h c.in-Err.is c.store_refusal.ensures

pub returns-in-Ok : goal.returns-in-Ok
returns-in-Ok c doc h = accepted_check doc _ _ _ _ h c.in-Ok.is c.store_five.ensures
