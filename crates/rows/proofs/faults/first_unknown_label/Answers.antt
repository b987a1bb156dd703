-- `rows::faults::first_unknown_label` meets its contract. The loop's invariant: the first label that is not known is the first
-- among those left. Assumes nothing.
use Prim.Native.Nat.{◌+◌, ◌-◌, ◌≤◌, ℕ}
use lib.ListN.{length}
use mathlib.Core.Option.{some}
use mathlib.Core.Path.{◌∙◌, ap, refl, subst, sym}
use native.Mathlib.Omega.{arith}
use Rattle.document.specs.Lookup.{label_of}
use Rattle.document.specs.NameFaults.{bracket_labels}
use Rattle.rows.specs.RowWords.{label_at}
use Rattle.form.proofs.WalkLaws.{label_within}
use Rattle.form.proofs.WalkSteps.{item_after, item_inside}
use Rattle.form.specs.Walks.{items_at}
use Rattle.lists.specs.Lists.{there}
use Rattle.text.proofs.Spaces.{space_here}
use Rattle.text.specs.Offending.{missing}
use Rattle.text.specs.Words.{word_of}
use Rattle.rows.proofs.RowChecks.{labels_done, labels_here, labels_on}
use Rattle.rows.proofs.faults.first_unknown_label.Goals as goal

pub loop-k-init : goal.loop-k-init
loop-k-init c = λ sets d h. refl

pub overflow_add-i : goal.overflow_add-i
overflow_add-i c = omega (arith, (space_here c.args.line.now c.loop-k.i _ c.byte_at.ensures c.loop-k-test.true).1)

pub overflow_add-i-then-not-label_known : goal.overflow_add-i-then-not-label_known
overflow_add-i-then-not-label_known c = omega (arith, (space_here c.args.line.now c.loop-k.i _ c.byte_at.ensures c.loop-k-test.true).1)

pub returns-then-not-label_known : goal.returns-then-not-label_known
unfolding label_at
returns-then-not-label_known c = let s = c.args.line.now in
    let i = c.loop-k.i in
    let e = space_here s i _ c.byte_at.ensures c.loop-k-test.true in (
      (λ sets d h. ap (λ p. some (word_of s p)) c.cell_label.ensures ∙ sym (c.loop-k.invariant sets d h
          ∙ labels_here (λ w. there (label_of d w)) s i e.0 c.label_known.result (c.label_known.ensures sets d h) c.if-not-label_known.true)),
      subst (λ (v : ℕ). v ≤ length s) (sym c.cell_label.ensures) (label_within s (i + 1) (omega (arith, e.1))),
    )

pub overflow_add-i-in-loop-k : goal.overflow_add-i-in-loop-k
overflow_add-i-in-loop-k c = omega (arith, (space_here c.args.line.now c.loop-k.i _ c.byte_at.ensures c.loop-k-test.true).1)

pub loop-k-smaller : goal.loop-k-smaller
loop-k-smaller c = let s = c.args.line.now in
    let h = space_here s c.loop-k.i _ c.byte_at.ensures c.loop-k-test.true in
    omega (arith, h.1, item_after s c.loop-k.i, item_inside s c.loop-k.i h.1, c.item_end_at-i.ensures)

pub loop-k-preserved : goal.loop-k-preserved
loop-k-preserved c = let s = c.args.line.now in
    let i = c.loop-k.i in
    let e = space_here s i _ c.byte_at.ensures c.loop-k-test.true in
    λ sets d h. c.loop-k.invariant sets d h
    ∙ labels_on (λ w. there (label_of d w)) s i e.0 c.label_known.result (c.label_known.ensures sets d h) c.if-not-label_known.false
    ∙ ap (λ j. missing (λ w. there (label_of d w)) (bracket_labels (items_at s j))) (sym c.item_end_at-i.ensures)

pub returns : goal.returns
returns c = (λ sets d h. sym (c.loop-k.invariant sets d h ∙ labels_done (λ w. there (label_of d w)) c.args.line.now c.loop-k.i (λ z. c.loop-k-test.false (c.byte_at.ensures ∙ z))), tt)
