-- `rows::storing::store_values` meets its contract. The loop's invariant: the values that were passed are stored, and the others are
-- left. Assumes nothing.
use Prim.Native.Nat.{◌-◌}
use mathlib.Core.List.{map}
use mathlib.Core.Path.{◌∙◌, ap, refl}
use native.Mathlib.Omega.{arith}
use Rattle.text.proofs.Spaces.{space_here}
use Rattle.form.proofs.WalkSteps.{plain_stop, value_after}
use Rattle.rows.proofs.RowTurns.{rowed_all, rowed_marked, value_turn}
use Rattle.text.specs.Walking.{written_end_at}
use Rattle.rows.proofs.storing.store_values.Goals as goal

pub loop-w-init : goal.loop-w-init
loop-w-init c = (omega arith, omega arith, λ m ls l small few h. rowed_marked _ h)

pub overflow_add-w : goal.overflow_add-w
overflow_add-w c = omega (arith, (space_here c.args.line.now c.loop-w.j _ c.byte_at.ensures c.loop-w-test.true).1)

pub overflow_add-c : goal.overflow_add-c
overflow_add-c c = omega (
  arith,
  (space_here c.args.line.now
      c.loop-w.j _ c.byte_at.ensures
      c.loop-w-test.true).1,
  c.loop-w.invariant.0,
  c.loop-w.invariant.1,
)

pub loop-w-smaller : goal.loop-w-smaller
unfolding written_end_at
loop-w-smaller c = let entry = c.args in omega (
  arith,
  (space_here entry.line.now
      c.loop-w.j _ c.byte_at.ensures
      c.loop-w-test.true).1,
  value_after
      entry.line.now
      c.loop-w.j,
  c.written_end-j.ensures,
)

pub loop-w-preserved : goal.loop-w-preserved
unfolding written_end_at
loop-w-preserved c = let entry = c.args in
    let b = space_here entry.line.now c.loop-w.j _ c.byte_at.ensures c.loop-w-test.true in (
      omega (arith, b.1, c.loop-w.invariant.0, value_after entry.line.now c.loop-w.j, c.written_end-j.ensures),
      c.loop-w.invariant.1,
      λ m ls l small few h. value_turn l c.loop-w.j _ _ b.0 b.1
          entry.is c.place-pos.ensures
          c.written_end-j.ensures c.set_value.ensures small few
          (c.loop-w.invariant.2 m ls l small few h),
    )

pub returns : goal.returns
returns c m ls l small few h = rowed_all (c.loop-w.invariant.2 m ls l small few h) (ap (map (λ w. w.bytes)) (plain_stop c.args.line.now c.loop-w.j (λ e. c.loop-w-test.false (c.byte_at.ensures ∙ e)))) refl
