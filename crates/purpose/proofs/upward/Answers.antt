-- `purpose::upward` meets its contract. The loop's invariant: the rows passed hold their purposes' ancestors. Assumes nothing.
use Prim.Native.Nat.{◌+◌, ◌<◌}
use mathlib.Core.Path.{◌≡◌, refl}
use mathlib.Core.List.{[]}
use lib.ListN.{length, get_or}
use native.Mathlib.Omega.{arith}
use Rattle.purpose.specs.Compliance.{parent}
use Rattle.purpose.specs.Members.{limit}
use Rattle.purpose.specs.Meaning.{tree_held}
use Rattle.purpose.proofs.Closures.{Rows, row_child, row_top, rows_next, parent_read}
use Rattle.purpose.proofs.upward.Goals.{Joined-q-i, then-q-i, else-q-i}
use Rattle.purpose.proofs.upward.Goals as goal

pub loop-i-init : goal.loop-i-init
loop-i-init c = (omega arith, omega arith, refl, λ j h. absurd (omega arith))

-- where the arms meet, the row of i is there
joined : (c : Joined-q-i)
    → (length c.if-q-i.up ≡ limit) × Rows (tree_held c.args.t) (c.loop-i.i + 1) c.if-q-i.up
joined c =
    let tree = tree_held c.args.t in
    let i = c.loop-i.i in
    let up = c.loop-i.up in
    let inv = c.loop-i.invariant in
    let small : c.loop-i.i < limit = omega arith in
    let q = get_or c.args.t.parents i 0 in
    let e : get_or c.args.t.parents c.loop-i.i 0 ≡ parent (tree_held c.args.t) c.loop-i.i =
    parent_read c.args.t.parents c.args.t.count c.loop-i.i (omega (arith, c.size-n.ensures.0)) in
    elim c.if-q-i.branch [
      | then-q-i w ↦ rows_next tree i up c.if-q-i.up w.insert.result w.up-is small inv.2 inv.3
          (row_child tree i q (get_or up q []) w.insert.result small e w.if-q-i.true (inv.3 q w.if-q-i.true) w.insert.ensures)
      | else-q-i w ↦ rows_next tree i up c.if-q-i.up w.insert-else-q-i.result w.up-is small inv.2 inv.3
          (row_top tree i q w.no_members.result w.insert-else-q-i.result small e w.if-q-i.false w.no_members.ensures w.insert-else-q-i.ensures)
    ]

pub loop-i-preserved : goal.loop-i-preserved
loop-i-preserved c = let n = c.loop-i.invariant.1 in
    (omega arith, n, (joined c).0, (joined c).1)

pub returns : goal.returns
returns c i l = c.loop-i.invariant.3 i (omega (arith, c.size-n.ensures.0))
