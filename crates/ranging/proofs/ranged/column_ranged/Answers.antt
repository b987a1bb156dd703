-- `ranging::ranged::column_ranged` meets its contract. The loop's invariant: the rows gone through have no range there. Assumes nothing.
use Prim.Native.Nat.{◌-◌}
use Rattle.ranging.proofs.RangedLaws.{column_none, column_one}
use borrow.Author.Count.{below_more, below_none}
use mathlib.Core.Bool.{false}
use mathlib.Core.Path.{◌∙◌, sym}
use native.Mathlib.Omega.{arith}
use Rattle.ranging.proofs.ranged.column_ranged.Goals as goal

pub loop-r-init : goal.loop-r-init
loop-r-init c = (omega arith, λ rs held. below_none _)

pub returns-then-row_ranged : goal.returns-then-row_ranged
returns-then-row_ranged c = let a = c.args in
    let l = c.loop-r in
    λ rs held. column_one a.text.now a.rows.now a.count a.t a.c rs held l.r c.loop-r-test.true
    (sym (c.row_ranged.ensures (omega (arith, held.few, c.loop-r-test.true)) (held.narrow l.r c.loop-r-test.true)) ∙ c.if-row_ranged.true)

pub loop-r-preserved : goal.loop-r-preserved
loop-r-preserved c = let l = c.loop-r in
    (omega (arith, c.loop-r-test.true), λ rs held. below_more _ l.r (l.invariant.1 rs held) (sym (c.row_ranged.ensures (omega (arith, held.few, c.loop-r-test.true)) (held.narrow l.r c.loop-r-test.true)) ∙ c.if-row_ranged.false))

pub returns : goal.returns
returns c = let a = c.args in
    λ rs held. column_none a.text.now a.rows.now a.count a.t a.c rs held (λ i less. c.loop-r.invariant.1 rs held i (omega (arith, less, c.loop-r-test.false)))
