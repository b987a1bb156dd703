-- `rows::faults::first_broken` meets its contract. The loop's invariant: the first range that is not in order is the first among
-- the values left. Assumes nothing.
use Prim.Native.Nat.{◌+◌, ◌-◌, ◌≤◌, ℕ}
use lib.ListN.{length}
use mathlib.Core.Path.{◌∙◌, ap, refl, subst, sym}
use native.Mathlib.Omega.{arith}
use Rattle.document.specs.AmountFaults.{in_order}
use Rattle.form.proofs.WalkLaws.{place_within}
use Rattle.form.proofs.WalkSteps.{item_after, item_inside}
use Rattle.rows.proofs.RowChecks.{first_broken, test_done, test_here, test_on}
use Rattle.rows.specs.RowWords.{values_at}
use Rattle.text.proofs.Spaces.{space_here}
use Rattle.text.specs.Amounts.{range_of}
use Rattle.rows.proofs.faults.first_broken.Goals as goal

pub loop-v-init : goal.loop-v-init
loop-v-init c = refl

pub overflow_add-i : goal.overflow_add-i
overflow_add-i c = omega (arith, (space_here c.args.line.now c.loop-v.i _ c.byte_at.ensures c.loop-v-test.true).1)

pub returns-then-not-in_order : goal.returns-then-not-in_order
returns-then-not-in_order c = let s = c.args.line.now in
    let i = c.loop-v.i in
    let e = space_here s i _ c.byte_at.ensures c.loop-v-test.true in (
      sym (c.loop-v.invariant ∙ test_here (λ v. in_order (range_of v)) s i e.0
          c.value_place-v.result c.value_place-v.ensures c.in_order.result
          c.in_order.ensures c.if-not-in_order.true),
      subst (λ (v : ℕ). v ≤ length s) (sym c.value_place-v.ensures) (place_within s (i + 1) (omega (arith, e.1))),
    )

pub overflow_add-i-in-loop-v : goal.overflow_add-i-in-loop-v
overflow_add-i-in-loop-v c = omega (arith, (space_here c.args.line.now c.loop-v.i _ c.byte_at.ensures c.loop-v-test.true).1)

pub loop-v-smaller : goal.loop-v-smaller
loop-v-smaller c = let s = c.args.line.now in
    let h = space_here s c.loop-v.i _ c.byte_at.ensures c.loop-v-test.true in
    omega (arith, h.1, item_after s c.loop-v.i, item_inside s c.loop-v.i h.1, c.item_end_at-i.ensures)

pub loop-v-preserved : goal.loop-v-preserved
loop-v-preserved c = let s = c.args.line.now in
    let i = c.loop-v.i in
    let e = space_here s i _ c.byte_at.ensures c.loop-v-test.true in
    c.loop-v.invariant
    ∙ test_on (λ v. in_order (range_of v)) s i e.0 c.value_place-v.result c.value_place-v.ensures c.in_order.result c.in_order.ensures c.if-not-in_order.false
    ∙ ap (λ j. first_broken (values_at s j)) (sym c.item_end_at-i.ensures)

pub returns : goal.returns
returns c = (sym (c.loop-v.invariant ∙ test_done (λ v. in_order (range_of v)) c.args.line.now c.loop-v.i (λ z. c.loop-v-test.false (c.byte_at.ensures ∙ z))), tt)
