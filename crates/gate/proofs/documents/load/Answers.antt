-- `gate::documents::load` meets its contract: the reserve is found over the arrays that hold the document. Assumes nothing.
use Rattle.gate.proofs.LoadLaws.{loads_accepted, loads_refused, told_accepted, told_refused}
use Rattle.gate.specs.Loads.{LoadsDocument}
use Rattle.loaded.proofs.Chain.{handed_on}
use Rattle.gate.proofs.documents.load.Goals as goal

pub returns-in_err-c : goal.returns-in_err-c
returns-in_err-c c = handed_on (LoadsDocument _ _ _ _ _ _ _ _ _ _ _ _) c.from_residual.ensures.1 (loads_refused (told_refused c.hold.ensures c.in_err-c.was))

pub returns : goal.returns
returns c = let h = told_accepted c.hold.ensures c.in_ok-c.was in
    loads_accepted h (c.reserve.ensures h.what h.rows)
