use lib.ListN.{length}
use mathlib.Core.Path.{◌∙◌, refl, sym}
use native.Mathlib.Omega.{arith}
use Rattle.condition.proofs.PlaceLaws.{stored_end, stored_full, storing_more, storing_next, storing_start}
use Rattle.condition.proofs.conditions.store_places.Goals.{then-opens_comparison+else-n-ops, else-opens_comparison}
use Rattle.condition.proofs.conditions.store_places.Goals as goal

pub loop-i-init : goal.loop-i-init
loop-i-init c = storing_start c.args.s.now c.args.at c.args.end (length c.args.ops.now) c.args.ops.now refl

pub shape_of-ops-then-n-ops : goal.shape_of-ops-then-n-ops
shape_of-ops-then-n-ops c = c.loop-i.invariant.long

pub returns-then-n-ops : goal.returns-then-n-ops
returns-then-n-ops c = λ way x h. stored_full c.args.s.now c.args.at c.args.end _ _ c.loop-i.i c.loop-i.n c.loop-i.invariant way x h c.if-n-ops.true

pub overflow_add-ops : goal.overflow_add-ops
overflow_add-ops c = omega arith

pub bounds-ops-n : goal.bounds-ops-n
bounds-ops-n c = omega (arith, c.loop-i.invariant.few, c.loop-i.invariant.long)

pub overflow_add-n : goal.overflow_add-n
overflow_add-n c = omega (arith, c.loop-i.invariant.few, c.loop-i.invariant.long)

pub loop-i-preserved : goal.loop-i-preserved
loop-i-preserved c = let entry = c.args in
    let s = entry.s.now in
    let at = entry.at in
    let stop = entry.end in
    let room = length entry.ops.now in
    let i = c.loop-i.i in
    elim c.if-opens_comparison.branch [
      | then-opens_comparison+else-n-ops w ↦ rw (w.ops-is, w.n-is) (storing_more s at stop room _ i _ c.loop-i.invariant c.loop-i-test.true (sym c.opens_comparison.ensures ∙ w.if-opens_comparison.true) (omega (arith, c.loop-i.invariant.few, c.loop-i.invariant.long, w.if-n-ops.false)))
      | else-opens_comparison w ↦ rw (w.ops-is, w.n-is) (storing_next s at stop room _ i _ c.loop-i.invariant c.loop-i-test.true (sym c.opens_comparison.ensures ∙ w.if-opens_comparison.false))
    ]

pub shape_of-ops : goal.shape_of-ops
shape_of-ops c = c.loop-i.invariant.long

pub returns : goal.returns
returns c = λ way x h. stored_end c.args.s.now c.args.at c.args.end _ _ c.loop-i.i c.loop-i.n c.loop-i.invariant way x h (omega arith)
