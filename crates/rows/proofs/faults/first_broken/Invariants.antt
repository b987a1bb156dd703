-- `rows::faults::first_broken` meets its contract. The loop's invariant: the first range that is not in order is the first among
-- the values left. Assumes nothing.
use Prim.Native.Nat.{◌-◌}
use lib.ListN.{length}
use mathlib.Core.Path.{◌≡◌}
use Rattle.rows.proofs.RowChecks.{first_broken}
use Rattle.rows.specs.RowWords.{values_at}
use Rattle.rows.proofs.faults.first_broken.Given as goal

abbrev pub invariant-loop-v : goal.invariant-loop-v
invariant-loop-v l = first_broken (values_at l.line l.at) ≡ first_broken (values_at l.line l.i)

abbrev pub decreases-loop-v : goal.decreases-loop-v
decreases-loop-v l = length l.line - l.i
