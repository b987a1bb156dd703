-- `import::rows::copy_sure` meets its contract. The loop's invariant: to write the plain bytes from the loop's place on comes to the
-- same as to write them all at the start, and both places went on by as much. Assumes nothing.
use Prim.Native.Nat.{◌+◌, ◌-◌, ◌≤◌}
use Rattle.import.proofs.CopyLaws.{Copying}
use mathlib.Core.Path.{◌≡◌}
use Rattle.import.proofs.rows.copy_sure.Given as goal

abbrev pub invariant-loop-i : goal.invariant-loop-i
invariant-loop-i l = Copying l.s l.at l.i l.initial.out l.to l.out l.t × (l.at ≤ l.i) × (l.t + l.at ≡ l.to + l.i)

abbrev pub decreases-loop-i : goal.decreases-loop-i
decreases-loop-i l = l.end - l.i
