-- `import::rows::put_fields` meets its contract. The loop's invariant: to write the fields from the loop's place on comes to the
-- same as to write them all at the start. Assumes nothing.
use Prim.Native.Nat.{◌-◌}
use Rattle.import.proofs.RowLaws.{PuttingFields}
use lib.ListN.{length}
use Rattle.import.proofs.rows.put_fields.Given as goal

abbrev pub invariant-loop-next : goal.invariant-loop-next
invariant-loop-next l = PuttingFields l.s l.at l.i l.initial.out l.to l.out l.t

abbrev pub decreases-loop-next : goal.decreases-loop-next
decreases-loop-next l = length l.s - l.i
