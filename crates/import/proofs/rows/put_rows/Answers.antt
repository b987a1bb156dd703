-- `import::rows::put_rows` meets its contract. The loop's invariant: to write the lines of the records from the loop's place on
-- comes to the same as to write them all at the start. Assumes nothing.
use Rattle.import.proofs.RowLaws.{rows_done, rows_next, rows_start}
use native.Mathlib.Omega.{arith}
use Rattle.import.proofs.rows.put_rows.Goals as goal

pub loop-k-init : goal.loop-k-init
loop-k-init c = rows_start _ _ _ _ _

pub loop-k-preserved : goal.loop-k-preserved
loop-k-preserved c = let entry = c.args in rows_next entry.s.now entry.count entry.table.now entry.label.now c.loop-k.invariant c.loop-k-test.true c.put_row-p.result c.put_row-p.ensures

pub shape_of-out : goal.shape_of-out
shape_of-out c = c.loop-k.invariant.kept

pub returns : goal.returns
returns c = let entry = c.args in rows_done entry.s.now entry.count entry.table.now entry.label.now c.loop-k.invariant c.loop-k-test.false
