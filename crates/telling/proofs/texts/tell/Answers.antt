-- `telling::texts::tell` meets its contract. Assumes nothing.
use Rattle.loaded.proofs.Chain.{handed_on}
use Rattle.telling.specs.Telling.{Tells}
use Rattle.telling.proofs.TextLaws.{reason_told, refusal_told}
use Rattle.telling.proofs.texts.tell.Goals as goal

pub returns-in_err-x : goal.returns-in_err-x
returns-in_err-x c fit = let entry = c.args in handed_on (Tells _ _ _) c.from_residual.ensures.1 (refusal_told entry.doc.now entry.e _ c.in_err-x.was entry.out.now)

pub returns : goal.returns
returns c fit = let entry = c.args in reason_told entry.doc.now entry.e
    c.in_ok-x.x c.in_ok-x.was entry.out.now _ _
    c.told-out c.put_reason.ensures fit
