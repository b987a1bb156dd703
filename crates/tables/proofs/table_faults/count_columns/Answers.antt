-- `tables::table_faults::count_columns` meets its contract. The loop's invariant: the columns that were counted and those that are left are
-- all. Assumes nothing.
use Prim.Native.Nat.{◌-◌, ◌<◌, suc}
use lib.ListN.{length}
use mathlib.Core.Path.{◌∙◌, ◌≡◌, ap, sym}
use native.Mathlib.Omega.{arith}
use Rattle.tables.proofs.TableLineLaws.{bracket_after, by_more, by_stop}
use Rattle.tables.specs.TableLine.{columns_by}
use Rattle.text.proofs.Spaces.{space_here}
use Rattle.tables.proofs.table_faults.count_columns.Goals.{After-bracket_end-j}
use Rattle.tables.proofs.table_faults.count_columns.Goals as goal

pub loop-j-init : goal.loop-j-init
loop-j-init c = omega arith

pub overflow_add-j : goal.overflow_add-j
overflow_add-j c = omega (arith, (space_here c.args.s.now c.loop-j.j _ c.byte_at.ensures c.loop-j-test.true).1)

pub overflow_add-n : goal.overflow_add-n
overflow_add-n c = omega (arith, (space_here c.args.s.now c.loop-j.j _ c.byte_at.ensures c.loop-j-test.true).1)

-- the next turn begins later
later : (c : After-bracket_end-j) → c.loop-j.j < c.bracket_end-j.result
later c = let entry = c.args in omega (arith, c.bracket_end-j.ensures, bracket_after entry.s.now c.loop-j.j entry.triple)

pub loop-j-smaller : goal.loop-j-smaller
loop-j-smaller c = omega (arith, later c, (space_here c.args.s.now c.loop-j.j _ c.byte_at.ensures c.loop-j-test.true).1)

pub loop-j-preserved : goal.loop-j-preserved
loop-j-preserved c = let s = c.args.s.now in
    let one : length (columns_by c.args.triple s c.loop-j.j) ≡ suc (length (columns_by c.args.triple s c.bracket_end-j.result)) =
    ap length (by_more s c.loop-j.j c.args.triple (space_here s c.loop-j.j _ c.byte_at.ensures c.loop-j-test.true).0)
    ∙ ap (λ e. suc (length (columns_by c.args.triple s e))) (sym c.bracket_end-j.ensures) in
    (omega (arith, one, c.loop-j.invariant.0), omega (arith, later c, c.loop-j.invariant.1))

pub returns : goal.returns
returns c = let s = c.args.s.now in
    omega (arith, ap length (by_stop s c.loop-j.j c.args.triple (λ z. c.loop-j-test.false (c.byte_at.ensures ∙ z))), c.loop-j.invariant.0)
