-- `nodes::steps::step_role_below` meets its contract. Assumes nothing.
use native.Mathlib.Omega.{arith}
use Rattle.stepping.proofs.Growing.{grow_role}
use Rattle.stepping.proofs.Judgements.{follows_goes, follows_handed, has_room, passes, refuses}
use Rattle.nodes.proofs.steps.step_role_below.Goals as goal

pub returns-in_err-role_below_fault : goal.returns-in_err-role_below_fault
returns-in_err-role_below_fault c = λ d ps' bs' us' cs' gs' ls' ms' ts' ws' a w I.
    follows_handed (refuses c.role_below_fault.ensures c.in_err-role_below_fault.was d I.roles w) c.from_residual.ensures.1

pub overflow_add-next : goal.overflow_add-next
overflow_add-next c = omega (arith, has_room c.role_below_fault.ensures c.in_ok-role_below_fault.was)

pub returns : goal.returns
returns c = λ d ps' bs' us' cs' gs' ls' ms' ts' ws' a w I.
    let p = passes c.role_below_fault.ensures c.in_ok-role_below_fault.was d I.roles in
    follows_goes (record { doc = _; is = p; held = grow_role I _ _ _ (c.store_role_below.ensures d a I.roles p w.0) })
