-- `members::givens::first_unknown_given` meets its contract. The loop's invariant: the first unknown attribute from the loop's place on is
-- the first of all. Assumes nothing.
use Prim.Native.Nat.{◌-◌}
use mathlib.Core.Path.{◌∙◌, refl, sym}
use native.Mathlib.Omega.{arith}
use Rattle.document.specs.Lookup.{attribute_of}
use Rattle.members.proofs.GivenLaws.{first_near, missing_found, missing_onward, missing_over, pair_less, space_here}
use Rattle.lists.specs.Lists.{there}
use Rattle.members.proofs.givens.first_unknown_given.Goals as goal

pub loop-a-init : goal.loop-a-init
loop-a-init c = λ d h. refl

pub overflow_add-j : goal.overflow_add-j
overflow_add-j c = omega (arith, space_here c.args.line.now c.loop-a.j (sym c.byte_at.ensures ∙ c.loop-a-test.true))

pub returns-then-not-attribute_known : goal.returns-then-not-attribute_known
returns-then-not-attribute_known c = let entry = c.args in (
  λ d h. sym (missing_found
      (λ w. there (attribute_of d w)) entry.line.now c.loop-a.j c.first_in-a.result
      (sym c.byte_at.ensures ∙ c.loop-a-test.true) c.first_in-a.ensures
      (sym (c.attribute_known.ensures d h) ∙ c.if-not-attribute_known.true)) ∙ c.loop-a.invariant d h,
  omega (
    arith,
    first_near entry.line.now c.loop-a.j
        (sym c.byte_at.ensures ∙ c.loop-a-test.true),
    c.first_in-a.ensures,
  ),
)

pub overflow_add-j-in-loop-a : goal.overflow_add-j-in-loop-a
overflow_add-j-in-loop-a c = omega (arith, space_here c.args.line.now c.loop-a.j (sym c.byte_at.ensures ∙ c.loop-a-test.true))

pub loop-a-smaller : goal.loop-a-smaller
loop-a-smaller c = pair_less c.args.line.now
    c.loop-a.j
    (sym c.byte_at.ensures ∙ c.loop-a-test.true) c.pair_end-j.result
    c.pair_end-j.ensures

pub loop-a-preserved : goal.loop-a-preserved
loop-a-preserved c = λ d h. missing_onward (λ w. there (attribute_of d w))
    c.args.line.now
    c.loop-a.j c.first_in-a.result
    (sym c.byte_at.ensures ∙ c.loop-a-test.true)
    c.first_in-a.ensures c.pair_end-j.result c.pair_end-j.ensures
    (sym (c.attribute_known.ensures d h) ∙ c.if-not-attribute_known.false) ∙ c.loop-a.invariant d h

pub returns : goal.returns
returns c = (λ d h. sym (missing_over (λ w. there (attribute_of d w)) c.args.line.now c.loop-a.j (λ e. c.loop-a-test.false (c.byte_at.ensures ∙ e))) ∙ c.loop-a.invariant d h, tt)
