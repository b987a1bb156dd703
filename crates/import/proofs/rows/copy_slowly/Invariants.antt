-- `import::rows::copy_slowly` meets its contract. The loop's invariant: to write the plain bytes from the loop's place on comes to
-- the same as to write them all at the start. Assumes nothing.
use Prim.Native.Nat.{◌-◌}
use Rattle.import.proofs.CopyLaws.{Copying}
use lib.ListN.{length}
use Rattle.import.proofs.rows.copy_slowly.Given as goal

abbrev pub invariant-loop-i : goal.invariant-loop-i
invariant-loop-i l = Copying l.s l.at l.i l.initial.out l.to l.out l.t

abbrev pub decreases-loop-i : goal.decreases-loop-i
decreases-loop-i l = length l.s - l.i
