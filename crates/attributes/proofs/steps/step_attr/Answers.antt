-- `attributes::steps::step_attr` meets its contract. Assumes nothing.
use mathlib.Core.Path.{sym}
use native.Mathlib.Omega.{arith}
use Rattle.stepping.proofs.Growing.{grow_attr}
use Rattle.stepping.proofs.Judgements.{follows_goes, follows_handed, has_room, passes, refuses}
use Rattle.principals.proofs.IndexLaws.{users_length}
use Rattle.attributes.proofs.steps.step_attr.Goals as goal

pub returns-in_err-attr_fault : goal.returns-in_err-attr_fault
returns-in_err-attr_fault c = λ d ps' us' cs' gs' ls' ms' ts' ws' a w I.
    follows_handed (refuses c.attr_fault.ensures c.in_err-attr_fault.was d (I.roles, I.attributes, sym (users_length I.users)) w) c.from_residual.ensures.1

pub overflow_add-next : goal.overflow_add-next
overflow_add-next c = omega (arith, has_room c.attr_fault.ensures c.in_ok-attr_fault.was)

pub returns : goal.returns
returns c = λ d ps' us' cs' gs' ls' ms' ts' ws' a w I.
    let p = passes c.attr_fault.ensures c.in_ok-attr_fault.was d (I.roles, I.attributes, sym (users_length I.users)) in
    follows_goes (record { doc = _; is = p; held = grow_attr I _ _ _ _ c.args.line.now p (c.store_attr.ensures d a I.roles I.attributes p w.1) })
