-- `rows::faults::first_missing_date` meets its contract. The loop's invariant: the first date that does not exist is the first among
-- the values left. Assumes nothing.
use Prim.Native.Nat.{◌+◌, ◌-◌, ◌≤◌, ℕ}
use lib.ListN.{length}
use mathlib.Core.Path.{◌∙◌, ap, refl, subst, sym}
use native.Mathlib.Omega.{arith}
use Rattle.calendar.specs.DateText.{date_of}
use Rattle.document.specs.AmountFaults.{date_exists}
use Rattle.form.proofs.WalkLaws.{place_within}
use Rattle.form.proofs.WalkSteps.{item_after, item_inside}
use Rattle.rows.proofs.RowChecks.{first_unreal, test_done, test_here, test_on}
use Rattle.rows.specs.RowWords.{values_at}
use Rattle.text.proofs.Spaces.{space_here}
use Rattle.rows.proofs.faults.first_missing_date.Goals as goal

pub loop-v-init : goal.loop-v-init
loop-v-init c = refl

pub overflow_add-i : goal.overflow_add-i
overflow_add-i c = omega (arith, (space_here c.args.line.now c.loop-v.i _ c.byte_at.ensures c.loop-v-test.true).1)

pub returns-then-not-date_exists : goal.returns-then-not-date_exists
returns-then-not-date_exists c = let s = c.args.line.now in
    let i = c.loop-v.i in
    let e = space_here s i _ c.byte_at.ensures c.loop-v-test.true in (
      sym (c.loop-v.invariant ∙ test_here (λ v. date_exists (date_of v)) s i e.0
          c.value_place-v.result c.value_place-v.ensures c.date_exists.result
          c.date_exists.ensures c.if-not-date_exists.true),
      subst (λ (v : ℕ). v ≤ length s) (sym c.value_place-v.ensures) (place_within s (i + 1) (omega (arith, e.1))),
    )

pub overflow_add-i-in-loop-v : goal.overflow_add-i-in-loop-v
overflow_add-i-in-loop-v c = omega (arith, (space_here c.args.line.now c.loop-v.i _ c.byte_at.ensures c.loop-v-test.true).1)

pub loop-v-smaller : goal.loop-v-smaller
loop-v-smaller c = let s = c.args.line.now in
    let h = space_here s c.loop-v.i _ c.byte_at.ensures c.loop-v-test.true in
    omega (arith, h.1, item_after s c.loop-v.i, item_inside s c.loop-v.i h.1, c.item_end_at-i.ensures)

pub loop-v-preserved : goal.loop-v-preserved
loop-v-preserved c = let s = c.args.line.now in
    let i = c.loop-v.i in
    let e = space_here s i _ c.byte_at.ensures c.loop-v-test.true in
    c.loop-v.invariant
    ∙ test_on (λ v. date_exists (date_of v)) s i e.0 c.value_place-v.result
    c.value_place-v.ensures c.date_exists.result c.date_exists.ensures
    c.if-not-date_exists.false
    ∙ ap (λ j. first_unreal (values_at s j)) (sym c.item_end_at-i.ensures)

pub returns : goal.returns
returns c = (sym (c.loop-v.invariant ∙ test_done (λ v. date_exists (date_of v)) c.args.line.now c.loop-v.i (λ z. c.loop-v-test.false (c.byte_at.ensures ∙ z))), tt)
