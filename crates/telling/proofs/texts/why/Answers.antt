-- `telling::texts::why` meets its contract: the document's refusal, or what the line finds, told. Assumes nothing.
use Rattle.loaded.proofs.Chain.{handed_on}
use Rattle.telling.specs.Telling.{Tells}
use Rattle.telling.proofs.TextLaws.{document_refused, line_told, loaded_known}
use Rattle.telling.proofs.texts.why.Goals as goal

pub returns-in_err-c : goal.returns-in_err-c
returns-in_err-c c = let a = c.args in
    handed_on (Tells _ _ _) c.from_residual.ensures.1 (document_refused a.doc.now a.line.now _ (c.load.ensures.refuses _ c.in_err-c.was) a.out.now)

pub returns : goal.returns
returns c = let a = c.args in
    let h = c.load.ensures.accepts _ _ c.in_ok-c.was in
    line_told a.doc.now a.line.now a.out.now _ _ _ h.is _ (c.explain_line-e.ensures h.what (loaded_known h)) c.tell.ensures
