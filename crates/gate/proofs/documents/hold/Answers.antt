-- `gate::documents::hold` meets its contract, by that of the checker. Assumes nothing.
use Rattle.gate.proofs.LoadLaws.{held_accepted, held_refused}
use Rattle.gate.proofs.documents.hold.Goals as goal

pub returns-in-Ok : goal.returns-in-Ok
returns-in-Ok c = held_accepted (c.load-r.ensures.accepts _ _ c.in-Ok.is) c.store_counts.ensures

pub returns-in-Err : goal.returns-in-Err
returns-in-Err c = held_refused (c.load-r.ensures.refuses _ c.in-Err.is) c.store_none.ensures
