-- `rows::faults::first_missing_date` meets its contract. The loop's invariant: the first date that does not exist is the first among
-- the values left. Assumes nothing.
use Prim.Native.Nat.{◌-◌}
use lib.ListN.{length}
use mathlib.Core.Path.{◌≡◌}
use Rattle.rows.proofs.RowChecks.{first_unreal}
use Rattle.rows.specs.RowWords.{values_at}
use Rattle.rows.proofs.faults.first_missing_date.Given as goal

abbrev pub invariant-loop-v : goal.invariant-loop-v
invariant-loop-v l = first_unreal (values_at l.line l.at) ≡ first_unreal (values_at l.line l.i)

abbrev pub decreases-loop-v : goal.decreases-loop-v
decreases-loop-v l = length l.line - l.i
