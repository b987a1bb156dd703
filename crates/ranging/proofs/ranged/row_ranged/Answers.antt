-- `ranging::ranged::row_ranged` meets its contract. Assumes nothing.
use Rattle.ranging.proofs.RangedLaws.{row_elsewhere, row_here_lem}
use Rattle.ranging.proofs.ranged.row_ranged.Goals as goal

pub returns-then-row_table-t : goal.returns-then-row_table-t
returns-then-row_table-t c = let a = c.args in λ small narrow. row_elsewhere a.text.now a.rows.now a.r a.t a.c c.row_table.result (c.row_table.ensures small) c.if-row_table-t.true

pub returns : goal.returns
returns c = let a = c.args in
    let w = c.row_values-width in
    let p = c.value_place in
    λ small narrow. row_here_lem a.text.now a.rows.now a.r a.t a.c c.row_table.result (c.row_table.ensures small) c.if-row_table-t.false w.result p.result
    (w.ensures.is small narrow) (p.ensures small w.ensures.few) c.is_range.result c.is_range.ensures
