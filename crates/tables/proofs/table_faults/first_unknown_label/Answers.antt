-- `tables::table_faults::first_unknown_label` meets its contract. The loop's invariant: the first of all that is not known is the first of those
-- that are left. Assumes nothing.
use Prim.Native.Nat.{◌-◌, ◌<◌}
use mathlib.Core.Bool.{true}
use mathlib.Core.Path.{◌∙◌, ap, refl, sym}
use native.Mathlib.Omega.{arith}
use Rattle.tables.proofs.TableLineLaws.{bracket_after, labels_found, labels_next, labels_stop, third_within}
use Rattle.form.specs.Walks.{column_labels_at}
use Rattle.text.proofs.Spaces.{space_here}
use Rattle.text.specs.Offending.{missing}
use Rattle.tables.proofs.table_faults.first_unknown_label.Invariants.{known}
use Rattle.tables.proofs.table_faults.first_unknown_label.Goals.{After-bracket_end-j}
use Rattle.tables.proofs.table_faults.first_unknown_label.Goals as goal

pub loop-third-init : goal.loop-third-init
loop-third-init c sets ls h = refl

pub overflow_add-j : goal.overflow_add-j
overflow_add-j c = omega (arith, (space_here c.args.line.now c.loop-third.j _ c.byte_at.ensures c.loop-third-test.true).1)

pub returns-then-not-is_label : goal.returns-then-not-is_label
returns-then-not-is_label c = let s = c.args.line.now in
    let e = c.third_in-third.ensures in
    let g = space_here s c.loop-third.j _ c.byte_at.ensures c.loop-third-test.true in (
      (λ sets ls h. sym (c.loop-third.invariant sets ls h ∙ labels_found s
          c.loop-third.j (known ls) g.0 c.third_in-third.result e
          (sym (c.is_label.ensures sets ls h) ∙ c.if-not-is_label.true))),
      omega (arith, e, third_within s c.loop-third.j g.1),
    )

pub overflow_add-j-in-loop-third : goal.overflow_add-j-in-loop-third
overflow_add-j-in-loop-third c = omega (arith, (space_here c.args.line.now c.loop-third.j _ c.byte_at.ensures c.loop-third-test.true).1)

-- the next turn begins later
later : (c : After-bracket_end-j) → c.loop-third.j < c.bracket_end-j.result
later c = omega (arith, c.bracket_end-j.ensures, bracket_after c.args.line.now c.loop-third.j true)

pub loop-third-smaller : goal.loop-third-smaller
loop-third-smaller c = omega (
  arith,
  later c,
  (space_here c.args.line.now
      c.loop-third.j _ c.byte_at.ensures
      c.loop-third-test.true).1,
)

pub loop-third-preserved : goal.loop-third-preserved
loop-third-preserved c sets ls h = let s = c.args.line.now in
    c.loop-third.invariant sets ls h
    ∙ labels_next s c.loop-third.j (known ls)
    (space_here s c.loop-third.j _ c.byte_at.ensures c.loop-third-test.true).0
    c.third_in-third.result c.third_in-third.ensures
    (sym (c.is_label.ensures sets ls h) ∙ c.if-not-is_label.false)
    ∙ ap (λ e. missing (known ls) (column_labels_at s e)) (sym c.bracket_end-j.ensures)

pub returns : goal.returns
returns c = ((λ sets ls h. sym (c.loop-third.invariant sets ls h ∙ labels_stop c.args.line.now c.loop-third.j (known ls) (λ z. c.loop-third-test.false (c.byte_at.ensures ∙ z)))), tt)
