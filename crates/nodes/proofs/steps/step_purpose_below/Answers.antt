-- `nodes::steps::step_purpose_below` meets its contract. Assumes nothing.
use native.Mathlib.Omega.{arith}
use Rattle.stepping.proofs.Growing.{grow_purpose}
use Rattle.stepping.proofs.Judgements.{follows_goes, follows_handed, has_room, passes, refuses}
use Rattle.nodes.proofs.steps.step_purpose_below.Goals as goal

pub returns-in_err-purpose_below_fault : goal.returns-in_err-purpose_below_fault
returns-in_err-purpose_below_fault c = λ d rs' bs' us' cs' gs' ls' ms' ts' ws' a w I.
    follows_handed (refuses c.purpose_below_fault.ensures c.in_err-purpose_below_fault.was d I.purposes w) c.from_residual.ensures.1

pub overflow_add-next : goal.overflow_add-next
overflow_add-next c = omega (arith, has_room c.purpose_below_fault.ensures c.in_ok-purpose_below_fault.was)

pub returns : goal.returns
returns c = λ d rs' bs' us' cs' gs' ls' ms' ts' ws' a w I.
    let p = passes c.purpose_below_fault.ensures c.in_ok-purpose_below_fault.was d I.purposes in
    follows_goes (record { doc = _; is = p; held = grow_purpose I _ _ _ (c.store_purpose_below.ensures d a I.purposes p w.0) })
