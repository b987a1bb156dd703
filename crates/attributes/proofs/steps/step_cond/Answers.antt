-- `attributes::steps::step_cond` meets its contract. Assumes nothing.
use native.Mathlib.Omega.{arith}
use Rattle.attributes.proofs.CondLines.{cond_judges, cond_line, cond_read, cond_refuses}
use Rattle.stepping.proofs.Growing.{grow_cond}
use Rattle.stepping.proofs.Judgements.{follows_as, follows_goes, follows_handed, has_room, passes}
use Rattle.attributes.proofs.steps.step_cond.Goals as goal

pub returns-in_err-cond_role_fault : goal.returns-in_err-cond_role_fault
returns-in_err-cond_role_fault c = λ d ps' us' gs' ls' ms' ts' ws' is a w I.
    follows_handed (cond_refuses c.cond_role_fault.ensures is c.in_err-cond_role_fault.was d (I.roles, I.attributes, I.conds) w) c.from_residual.ensures.1

pub overflow_add-next : goal.overflow_add-next
overflow_add-next c = omega (arith, has_room (cond_judges c.cond_role_fault.ensures c.in_ok-cond_role_fault.was) c.in_ok-cond_role_fault.was)

pub returns : goal.returns
returns c = λ d ps' us' gs' ls' ms' ts' ws' is a w I.
    let p = passes (cond_judges c.cond_role_fault.ensures c.in_ok-cond_role_fault.was) c.in_ok-cond_role_fault.was d (I.roles, I.attributes, I.conds) in
    follows_as (cond_line c.cond_role_fault.ensures is c.in_ok-cond_role_fault.was d)
    (follows_goes (record { doc = _; is = p; held = grow_cond I _ _ _ _ (c.store_cond_role.ensures d a I.roles I.conds p (cond_read c.cond_role_fault.ensures c.in_ok-cond_role_fault.was) w.0) }))
