-- `notes::steps::step_label_note` meets its contract. Assumes nothing.
use Rattle.stepping.proofs.Growing.{grow_note}
use Rattle.stepping.proofs.Judgements.{follows_goes, follows_handed, passes, refuses}
use Rattle.notes.proofs.steps.step_label_note.Goals as goal

pub returns-in_err-label_note_fault : goal.returns-in_err-label_note_fault
returns-in_err-label_note_fault c = λ d ps' rs' bs' us' cs' gs' ms' w I.
    follows_handed (refuses c.label_note_fault.ensures c.in_err-label_note_fault.was d (I.tables, I.notes, (ms', I.labels), I.rows) w) c.from_residual.ensures.1

pub returns : goal.returns
returns c = λ d ps' rs' bs' us' cs' gs' ms' w I.
    let p = passes c.label_note_fault.ensures c.in_ok-label_note_fault.was d (I.tables, I.notes, (ms', I.labels), I.rows) in
    let stored = c.store_label_note.ensures d ms' I.labels I.tables I.notes p in
    follows_goes (record { doc = _; is = p; held = grow_note I _ _ _ stored.0 stored.1 })
