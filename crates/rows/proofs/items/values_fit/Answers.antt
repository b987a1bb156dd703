-- `rows::items::values_fit` meets its contract. The loop's invariant: with the items passed, those left are as many as wanted
-- exactly when all are. Assumes nothing.
use Prim.Native.Nat.{◌+◌, ◌-◌}
use mathlib.Core.Path.{◌∙◌, ◌≡◌, ap, sym}
use mathlib.Core.Bool.{Bool, cond, not}
use native.Mathlib.Omega.{arith}
use Rattle.document.specs.ValueFaults.{shaped_values}
use Rattle.form.specs.Walks.{is_labelled_at, items_at}
use Rattle.form.proofs.WalkSteps.{item_after, item_inside}
use Rattle.text.proofs.Spaces.{space_here}
use Rattle.rows.proofs.RowItems.{count_start, count_fits, fits_more, fits_stop, fits_wrong}
use Rattle.rows.proofs.items.values_fit.Goals as goal

pub loop-at-init : goal.loop-at-init
loop-at-init c = (omega arith, count_start c.args.width (shaped_values c.args.bracketed (items_at c.args.line.now c.args.at)))

pub overflow_add-i : goal.overflow_add-i
overflow_add-i c = omega (arith, (space_here c.args.line.now c.loop-at.i _ c.byte_at.ensures c.loop-at-test.true).1)

pub returns-then-not-item_fits : goal.returns-then-not-item_fits
returns-then-not-item_fits c = let entry = c.args in
    let s = entry.line.now in
    let b = entry.bracketed in
    let h = space_here s c.loop-at.i _ c.byte_at.ensures c.loop-at-test.true in
    let e : is_labelled_at s (c.loop-at.i + 1) ≡ not b = c.item_fits.ensures ∙ ap (λ (r : Bool). cond r b (not b)) c.if-not-item_fits.true in
    sym (c.loop-at.invariant.1 ∙ fits_wrong s c.loop-at.i c.loop-at.n entry.width b h.0 e)

pub overflow_add-n : goal.overflow_add-n
overflow_add-n c = omega (arith, (space_here c.args.line.now c.loop-at.i _ c.byte_at.ensures c.loop-at-test.true).1)

pub overflow_add-i-in-loop-at : goal.overflow_add-i-in-loop-at
overflow_add-i-in-loop-at c = omega (arith, (space_here c.args.line.now c.loop-at.i _ c.byte_at.ensures c.loop-at-test.true).1)

pub loop-at-smaller : goal.loop-at-smaller
loop-at-smaller c = let s = c.args.line.now in
    let h = space_here s c.loop-at.i _ c.byte_at.ensures c.loop-at-test.true in
    omega (arith, h.1, item_after s c.loop-at.i, item_inside s c.loop-at.i h.1, c.item_end_at-i.ensures)

pub loop-at-preserved : goal.loop-at-preserved
loop-at-preserved c = let entry = c.args in
    let s = entry.line.now in
    let b = entry.bracketed in
    let h = space_here s c.loop-at.i _ c.byte_at.ensures c.loop-at-test.true in
    let e : is_labelled_at s (c.loop-at.i + 1) ≡ b = c.item_fits.ensures ∙ ap (λ (r : Bool). cond r b (not b)) c.if-not-item_fits.false in (
      omega (arith, h.1, item_after s c.loop-at.i, c.item_end_at-i.ensures),
      c.loop-at.invariant.1
          ∙ fits_more s c.loop-at.i c.loop-at.n entry.width b h.0 e
          ∙ ap (λ j. count_fits (c.loop-at.n + 1) entry.width (shaped_values b (items_at s j))) (sym c.item_end_at-i.ensures),
    )

pub returns : goal.returns
returns c = let entry = c.args in
    let s = entry.line.now in
    sym (c.loop-at.invariant.1 ∙ fits_stop s c.loop-at.i c.loop-at.n entry.width entry.bracketed (λ e. c.loop-at-test.false (c.byte_at.ensures ∙ e)))
