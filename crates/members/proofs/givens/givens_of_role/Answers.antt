-- `members::givens::givens_of_role` meets its contract. The loop's invariant: all from the loop's place on are the role's exactly when all
-- are. Assumes nothing.
use Prim.Native.Nat.{◌-◌}
use mathlib.Core.Path.{◌∙◌, refl, sym}
use native.Mathlib.Omega.{arith}
use Rattle.document.specs.ValueFaults.{is_attribute_of}
use Rattle.members.proofs.GivenLaws.{all_here, all_onward, all_over, pair_less, space_here}
use Rattle.members.proofs.givens.givens_of_role.Goals as goal

pub loop-a-init : goal.loop-a-init
loop-a-init c = λ d m h. refl

pub overflow_add-j : goal.overflow_add-j
overflow_add-j c = omega (arith, space_here c.args.line.now c.loop-a.j (sym c.byte_at.ensures ∙ c.loop-a-test.true))

pub returns-then-not-names_attribute_of : goal.returns-then-not-names_attribute_of
returns-then-not-names_attribute_of c = let entry = c.args in λ d m h. sym (all_here
    (is_attribute_of d entry.role) entry.line.now c.loop-a.j c.first_in-a.result
    (sym c.byte_at.ensures ∙ c.loop-a-test.true) c.first_in-a.ensures
    (sym (c.names_attribute_of.ensures d m h) ∙ c.if-not-names_attribute_of.true)) ∙ c.loop-a.invariant d m h

pub overflow_add-j-in-loop-a : goal.overflow_add-j-in-loop-a
overflow_add-j-in-loop-a c = omega (arith, space_here c.args.line.now c.loop-a.j (sym c.byte_at.ensures ∙ c.loop-a-test.true))

pub loop-a-smaller : goal.loop-a-smaller
loop-a-smaller c = pair_less c.args.line.now
    c.loop-a.j
    (sym c.byte_at.ensures ∙ c.loop-a-test.true) c.pair_end-j.result
    c.pair_end-j.ensures

pub loop-a-preserved : goal.loop-a-preserved
loop-a-preserved c = let entry = c.args in λ d m h. all_onward
    (is_attribute_of d entry.role) entry.line.now c.loop-a.j
    c.first_in-a.result
    (sym c.byte_at.ensures ∙ c.loop-a-test.true)
    c.first_in-a.ensures c.pair_end-j.result c.pair_end-j.ensures
    (sym (c.names_attribute_of.ensures d m h) ∙ c.if-not-names_attribute_of.false) ∙ c.loop-a.invariant d m h

pub returns : goal.returns
returns c = let entry = c.args in λ d m h. sym (all_over (is_attribute_of d entry.role) entry.line.now c.loop-a.j (λ e. c.loop-a-test.false (c.byte_at.ensures ∙ e))) ∙ c.loop-a.invariant d m h
