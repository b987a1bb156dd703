-- `members::steps::step_grant` meets its contract. Assumes nothing.
use native.Mathlib.Omega.{arith}
use Rattle.stepping.proofs.Growing.{grants_count, grow_grant}
use Rattle.stepping.proofs.Judgements.{follows_goes, follows_handed, has_room, passes, refuses}
use Rattle.members.proofs.steps.step_grant.Goals as goal

pub returns-in_err-grant_fault : goal.returns-in_err-grant_fault
returns-in_err-grant_fault c = λ d rs' bs' us' ls' ms' ts' ws' a w I.
    follows_handed (refuses c.grant_fault.ensures c.in_err-grant_fault.was d (I.purposes, I.conds, grants_count I.grants) w) c.from_residual.ensures.1

pub overflow_add-next : goal.overflow_add-next
overflow_add-next c = omega (arith, has_room c.grant_fault.ensures c.in_ok-grant_fault.was)

pub returns : goal.returns
returns c = λ d rs' bs' us' ls' ms' ts' ws' a w I.
    let p = passes c.grant_fault.ensures c.in_ok-grant_fault.was d (I.purposes, I.conds, grants_count I.grants) in
    follows_goes (record { doc = _; is = p; held = grow_grant I _ _ _ (c.store_grant.ensures d I.purposes I.conds I.grants p) })
