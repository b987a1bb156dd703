-- `rows::storing::store_cells` meets its contract. The loop's invariant: the values and labels that were passed are stored, and the others are
-- left. Assumes nothing.
use Prim.Native.Nat.{◌-◌}
use Rattle.document.specs.Lookup.{label_of}
use Rattle.form.proofs.WalkSteps.{cell_after, cells_stop}
use Rattle.lists.specs.Lists.{or_zero}
use Rattle.rows.proofs.RowTurns.{cell_turn, rowed_all, rowed_begun}
use Rattle.text.proofs.Spaces.{space_here}
use mathlib.Core.List.{map}
use mathlib.Core.Path.{◌∙◌, ap}
use native.Mathlib.Omega.{arith}
use Rattle.rows.proofs.storing.store_cells.Goals as goal

pub loop-w-init : goal.loop-w-init
loop-w-init c = (omega arith, omega arith, λ d sets ls l N small few h. rowed_begun _ _ h)

pub overflow_add-j : goal.overflow_add-j
overflow_add-j c = omega (arith, (space_here c.args.line.now c.loop-w.j _ c.byte_at.ensures c.loop-w-test.true).1)

pub overflow_add-j-in-loop-w : goal.overflow_add-j-in-loop-w
overflow_add-j-in-loop-w c = omega (arith, (space_here c.args.line.now c.loop-w.j _ c.byte_at.ensures c.loop-w-test.true).1)

pub overflow_add-m : goal.overflow_add-m
overflow_add-m c = omega (arith, (space_here c.args.line.now c.loop-w.j _ c.byte_at.ensures c.loop-w-test.true).1, c.loop-w.invariant.0, c.loop-w.invariant.1, c.requires)

pub overflow_add-j-in-loop-w-2 : goal.overflow_add-j-in-loop-w-2
overflow_add-j-in-loop-w-2 c = omega (
  arith,
  (space_here
      c.args.line.now
      c.loop-w.j _
      c.byte_at.ensures
      c.loop-w-test.true).1,
)

pub overflow_add-c : goal.overflow_add-c
overflow_add-c c = omega (arith, (space_here c.args.line.now c.loop-w.j _ c.byte_at.ensures c.loop-w-test.true).1, c.loop-w.invariant.0, c.loop-w.invariant.1)

pub loop-w-smaller : goal.loop-w-smaller
loop-w-smaller c = let entry = c.args in omega (
  arith,
  (space_here
      entry.line.now
      c.loop-w.j _
      c.byte_at.ensures
      c.loop-w-test.true).1,
  cell_after
      entry.line.now
      c.loop-w.j,
  c.cell_end-j.ensures,
)

pub loop-w-preserved : goal.loop-w-preserved
unfolding label_of
loop-w-preserved c = let entry = c.args in
    let b = space_here
    entry.line.now
    c.loop-w.j _
    c.byte_at.ensures
    c.loop-w-test.true in (
      omega (
        arith,
        b.1,
        c.loop-w.invariant.0,
        cell_after
            entry.line.now
            c.loop-w.j,
        c.cell_end-j.ensures,
      ),
      c.loop-w.invariant.1,
      λ d sets ls l N small few h. cell_turn l
          c.loop-w.j _ _ b.0 b.1 ls d
          entry.is _ _ _
          c.first_in-w.ensures
          c.cell_label-q.ensures
          c.place-pos.ensures
          (c.number-label.ensures ∙ ap or_zero (c.find_label.ensures.0 sets _ N))
          c.cell_end-j.ensures c.set_value.ensures c.set_label.ensures small
          c.requires few
          (c.loop-w.invariant.2 d sets ls l N small few h),
    )

pub returns : goal.returns
returns c d sets ls l N small few h = let e = cells_stop c.args.line.now c.loop-w.j (λ e. c.loop-w-test.false (c.byte_at.ensures ∙ e)) in
    rowed_all (c.loop-w.invariant.2 d sets ls l N small few h) (ap (map (λ g. g.0.bytes)) e) (ap (map (λ g. or_zero (label_of d g.1))) e)
