-- `members::steps::step_user` meets its contract. Assumes nothing.
use native.Mathlib.Omega.{arith}
use Rattle.stepping.proofs.Growing.{grow_user}
use Rattle.stepping.proofs.Judgements.{follows_goes, follows_handed, has_room, passes, refuses}
use Rattle.members.proofs.steps.step_user.Goals as goal

pub returns-in_err-user_fault : goal.returns-in_err-user_fault
returns-in_err-user_fault c = λ d ps' cs' gs' ls' ms' ts' ws' a w I U.
    follows_handed (refuses c.user_fault.ensures c.in_err-user_fault.was d (I.roles, I.attributes, I.users, U) w) c.from_residual.ensures.1

pub overflow_add-next : goal.overflow_add-next
overflow_add-next c = omega (arith, has_room c.user_fault.ensures c.in_ok-user_fault.was)

pub returns : goal.returns
returns c = λ d ps' cs' gs' ls' ms' ts' ws' a w I U.
    let p = passes c.user_fault.ensures c.in_ok-user_fault.was d (I.roles, I.attributes, I.users, U) in
    follows_goes (record { doc = _; is = p; held = grow_user I _ _ _ _ (c.store_user.ensures d a I.roles I.users p w.0) })
