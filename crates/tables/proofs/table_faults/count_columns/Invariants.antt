-- `tables::table_faults::count_columns` meets its contract. The loop's invariant: the columns that were counted and those that are left are
-- all. Assumes nothing.
use Prim.Native.Nat.{◌+◌, ◌-◌, ◌≤◌}
use lib.ListN.{length}
use mathlib.Core.Path.{◌≡◌}
use Rattle.tables.specs.TableLine.{columns_by}
use Rattle.tables.proofs.table_faults.count_columns.Given as goal

abbrev pub invariant-loop-j : goal.invariant-loop-j
invariant-loop-j l = (l.n + length (columns_by l.triple l.s l.j) ≡ length (columns_by l.triple l.s l.at)) × (l.n ≤ l.j)

abbrev pub decreases-loop-j : goal.decreases-loop-j
decreases-loop-j l = length l.s - l.j
