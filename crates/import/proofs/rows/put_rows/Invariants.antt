-- `import::rows::put_rows` meets its contract. The loop's invariant: to write the lines of the records from the loop's place on
-- comes to the same as to write them all at the start. Assumes nothing.
use Prim.Native.Nat.{◌-◌}
use Rattle.import.proofs.RowLaws.{PuttingRows}
use Rattle.import.proofs.rows.put_rows.Given as goal

abbrev pub invariant-loop-k : goal.invariant-loop-k
invariant-loop-k l = PuttingRows l.s l.at l.k l.count l.table l.label l.initial.out l.out l.to
