-- `reasons::cells::nth_row` meets its contract. The loop's invariant: what is sought is the row before which so many of those that are left stand. Assumes nothing.
use Prim.Native.Nat.{◌-◌}
use Rattle.answer.specs.Seen.{rows_in}
use Rattle.document.specs.Policy.{Row}
use Rattle.reasons.proofs.RowLaws.{sought_here, sought_none, sought_on}
use Rattle.relations.proofs.RowLaws.{row_at, rows_counted}
use Rattle.relations.specs.Rows.{row_in}
use Rattle.workspace.specs.Found.{found_as}
use lib.Dec.{eqb}
use mathlib.Core.Option.{bind}
use mathlib.Core.Path.{◌∙◌, ap, refl, sym}
use native.Mathlib.Omega.{arith}
use Rattle.reasons.proofs.cells.nth_row.Goals as goal

pub loop-r-init : goal.loop-r-init
loop-r-init c = (omega arith, λ text rs h. refl)

pub returns-in_default : goal.returns-in_default
unfolding bind rows_in row_in
returns-in_default c = let a = c.args in
    let r = c.loop-r.r in (
      λ text rs h. sought_here (λ (x : Row). eqb x.table a.t) rs a.n r c.loop-r.left (row_in text a.rows.now r) (row_at text a.rows.now a.count rs h r (omega (arith, c.loop-r-test.true)))
          (sym (c.pass_row-x.ensures (omega (arith, c.loop-r-test.true, h.few))) ∙ ap found_as c.in_default.is) (c.loop-r.invariant.1 text rs h),
      omega (arith, c.loop-r-test.true),
    )

pub loop-r-preserved : goal.loop-r-preserved
unfolding row_in
loop-r-preserved c = let a = c.args in
    let r = c.loop-r.r in (
      omega (arith, c.loop-r-test.true),
      λ text rs h. sought_on (λ (x : Row). eqb x.table a.t) rs a.n r c.loop-r.left c.in-Some.m (row_in text a.rows.now r) (row_at text a.rows.now a.count rs h r (omega (arith, c.loop-r-test.true)))
          (sym (c.pass_row-x.ensures (omega (arith, c.loop-r-test.true, h.few))) ∙ ap found_as c.in-Some.is) (c.loop-r.invariant.1 text rs h),
    )

pub returns : goal.returns
unfolding bind rows_in
returns c = let a = c.args in
    (λ text rs h. sought_none (λ (x : Row). eqb x.table a.t) rs a.n c.loop-r.r c.loop-r.left (omega (arith, c.loop-r-test.false, rows_counted text a.rows.now a.count rs h)) (c.loop-r.invariant.1 text rs h), tt)
