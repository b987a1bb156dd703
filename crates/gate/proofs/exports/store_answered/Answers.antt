-- `gate::exports::store_answered` meets its contract. Assumes nothing.
use Rattle.gate.proofs.ExportLaws.{given_answer, refused_answer}
use Rattle.gate.proofs.exports.store_answered.Goals as goal

pub returns-in-Err : goal.returns-in-Err
returns-in-Err c = refused_answer _ _ _ _ c.in-Err.is c.store_refusal.ensures

pub returns-in-Ok : goal.returns-in-Ok
returns-in-Ok c = given_answer _ _ _ c.in-Ok.is c.store_five.ensures
