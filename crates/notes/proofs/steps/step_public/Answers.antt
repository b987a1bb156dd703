-- `notes::steps::step_public` meets its contract. Assumes nothing.
use Rattle.stepping.proofs.Growing.{grow_note}
use Rattle.stepping.proofs.Judgements.{follows_goes, follows_handed, passes, refuses}
use Rattle.notes.proofs.steps.step_public.Goals as goal

pub returns-in_err-public_fault : goal.returns-in_err-public_fault
returns-in_err-public_fault c = λ d ps' rs' bs' us' cs' gs' ls' ms' ws' w I.
    follows_handed (refuses c.public_fault.ensures c.in_err-public_fault.was d (I.tables, I.notes) w) c.from_residual.ensures.1

pub returns : goal.returns
returns c = λ d ps' rs' bs' us' cs' gs' ls' ms' ws' w I.
    let p = passes c.public_fault.ensures c.in_ok-public_fault.was d (I.tables, I.notes) in
    let stored = c.store_public.ensures d I.tables I.notes p in
    follows_goes (record { doc = _; is = p; held = grow_note I _ _ _ stored.0 stored.1 })
