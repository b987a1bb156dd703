-- `relations::rows::has_row` meets its contract. The loop's invariant: none of the rows passed lies in the table. Assumes nothing.
use Prim.Native.Nat.{◌-◌, ◌<◌}
use borrow.Author.Count.{below_more}
use lib.ListN.{get_or}
use mathlib.Core.Path.{◌∙◌, ◌≡◌, sym}
use native.Mathlib.Omega.{arith}
use Rattle.relations.proofs.RowLaws.{row_nowhere, row_somewhere}
use Rattle.relations.proofs.rows.has_row.Goals as goal

pub loop-r-init : goal.loop-r-init
loop-r-init c = (omega arith, λ q l. absurd (omega (arith, l)))

pub returns-then-row_table-t : goal.returns-then-row_table-t
returns-then-row_table-t c text rs h = let a = c.args in
    let r = c.loop-r.r in
    sym (row_somewhere text a.ws.now a.count rs h a.t r (omega arith) (sym (c.row_table.ensures (omega (arith, h.few))) ∙ c.if-row_table-t.true))

pub loop-r-preserved : goal.loop-r-preserved
loop-r-preserved c = let l = c.loop-r in
    (omega arith, below_more (λ q. q < 1024 → get_or c.args.ws.now q 0 ≡ c.args.t → ⊥) l.r l.invariant.1 (λ i e. c.if-row_table-t.false (c.row_table.ensures i ∙ e)))

pub returns : goal.returns
returns c text rs h = let a = c.args in
    sym (row_nowhere text a.ws.now a.count rs h a.t (λ q l. c.loop-r.invariant.1 q (omega arith) (omega (arith, l, h.few))))
