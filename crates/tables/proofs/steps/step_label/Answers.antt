-- `tables::steps::step_label` meets its contract. Assumes nothing.
use native.Mathlib.Omega.{arith}
use Rattle.stepping.proofs.Growing.{grow_label}
use Rattle.stepping.proofs.Judgements.{follows_goes, follows_handed, has_room, passes, refuses}
use Rattle.tables.proofs.steps.step_label.Goals as goal

pub returns-in_err-label_fault : goal.returns-in_err-label_fault
returns-in_err-label_fault c = λ d rs' bs' us' cs' gs' ts' ws' a w denies I.
    follows_handed (refuses c.label_fault.ensures c.in_err-label_fault.was d (I.purposes, (c.args.sets.now, I.labels)) w) c.from_residual.ensures.1

pub overflow_add-next : goal.overflow_add-next
overflow_add-next c = omega (arith, has_room c.label_fault.ensures c.in_ok-label_fault.was)

pub returns : goal.returns
returns c = λ d rs' bs' us' cs' gs' ts' ws' a w denies I.
    let p = passes c.label_fault.ensures c.in_ok-label_fault.was d (I.purposes, (c.args.sets.now, I.labels)) in
    follows_goes (record { doc = _; is = p; held = grow_label I _ _ _ _ _ (c.store_label.ensures d a I.purposes I.labels p w denies) })
