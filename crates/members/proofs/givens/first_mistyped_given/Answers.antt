-- `members::givens::first_mistyped_given` meets its contract. The loop's invariant: the first value of a wrong type from the loop's place
-- on is the first of all. Assumes nothing.
use Prim.Native.Nat.{◌-◌}
use mathlib.Core.Path.{◌∙◌, refl, sym}
use native.Mathlib.Omega.{arith}
use Rattle.members.proofs.GivenLaws.{pair_less, second_near, space_here, typed_here, typed_onward, typed_over}
use Rattle.members.proofs.givens.first_mistyped_given.Goals as goal

pub loop-a-init : goal.loop-a-init
loop-a-init c = λ d h. refl

pub overflow_add-j : goal.overflow_add-j
overflow_add-j c = omega (arith, space_here c.args.line.now c.loop-a.j (sym c.byte_at.ensures ∙ c.loop-a-test.true))

pub overflow_add-j-in-loop-a : goal.overflow_add-j-in-loop-a
overflow_add-j-in-loop-a c = omega (arith, space_here c.args.line.now c.loop-a.j (sym c.byte_at.ensures ∙ c.loop-a-test.true))

pub returns-then-not-value_fits : goal.returns-then-not-value_fits
returns-then-not-value_fits c = let entry = c.args in (
  λ d h. sym (typed_here d
      entry.line.now c.loop-a.j c.first_in-a.result
      c.second_in-v.result
      (sym c.byte_at.ensures ∙ c.loop-a-test.true)
      c.first_in-a.ensures c.second_in-v.ensures
      (sym (c.value_fits.ensures d h) ∙ c.if-not-value_fits.true)) ∙ c.loop-a.invariant d h,
  omega (
    arith,
    second_near entry.line.now c.loop-a.j
        (sym c.byte_at.ensures ∙ c.loop-a-test.true),
    c.second_in-v.ensures,
  ),
)

pub overflow_add-j-in-loop-a-2 : goal.overflow_add-j-in-loop-a-2
overflow_add-j-in-loop-a-2 c = omega
    (arith, space_here c.args.line.now c.loop-a.j (sym c.byte_at.ensures ∙ c.loop-a-test.true))

pub loop-a-smaller : goal.loop-a-smaller
loop-a-smaller c = pair_less c.args.line.now
    c.loop-a.j
    (sym c.byte_at.ensures ∙ c.loop-a-test.true)
    c.pair_end-j.result c.pair_end-j.ensures

pub loop-a-preserved : goal.loop-a-preserved
loop-a-preserved c = λ d h. typed_onward d c.args.line.now
    c.loop-a.j c.first_in-a.result
    c.second_in-v.result
    (sym c.byte_at.ensures ∙ c.loop-a-test.true)
    c.first_in-a.ensures c.second_in-v.ensures c.pair_end-j.result
    c.pair_end-j.ensures
    (sym (c.value_fits.ensures d h) ∙ c.if-not-value_fits.false) ∙ c.loop-a.invariant d h

pub returns : goal.returns
returns c = (λ d h. sym (typed_over d c.args.line.now c.loop-a.j (λ e. c.loop-a-test.false (c.byte_at.ensures ∙ e))) ∙ c.loop-a.invariant d h, tt)
