-- `reserve::sums::table_sum` meets its contract. The loop's invariant: the sum is that of the table's rows among the first r. Assumes nothing.
use Prim.Native.Nat.{◌-◌}
use mathlib.Core.List.{List}
use mathlib.Core.Path.{◌≡◌, refl, subst}
use native.Mathlib.Omega.{arith}
use Rattle.answer.specs.Seen.{rows_in}
use Rattle.document.specs.Policy.{Row}
use Rattle.relations.specs.Rows.{Rows}
use Rattle.reserve.proofs.SumLaws.{rows_more, rows_none}
use Rattle.reserve.specs.Sums.{Sums}
use Rattle.reserve.proofs.sums.table_sum.Goals as goal

pub loop-r-init : goal.loop-r-init
loop-r-init c = (omega arith, omega arith, omega arith, rows_none c.args.text.now c.args.rows.now c.args.t _ refl refl)

pub with_row-more-requires : goal.with_row-more-requires
with_row-more-requires c = (c.requires.0, omega (arith, c.loop-r-test.true, c.requires.1), c.loop-r.invariant.1, c.loop-r.invariant.2)

pub loop-r-preserved : goal.loop-r-preserved
loop-r-preserved c = let l = c.loop-r in
    let a = c.with_row-more.ensures in
    (omega (arith, c.loop-r-test.true), omega (arith, l.invariant.1, a.count), omega (arith, l.invariant.2, a.bytes), rows_more c.args.text.now c.args.rows.now l.r c.args.t l.s _ l.invariant.3 a)

pub returns : goal.returns
returns c = let l = c.loop-r in
    let e : l.r ≡ c.args.count = omega (arith, l.invariant.0, c.loop-r-test.false) in
    (subst (λ k. (rs : List Row) → Rows c.args.text.now c.args.rows.now k rs → Sums (rows_in c.args.t rs) l.s) e l.invariant.3, omega (arith, l.invariant.1, l.invariant.0, c.requires.1), omega (arith, l.invariant.2, l.invariant.0, c.requires.1))
