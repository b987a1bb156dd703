-- `tables::table_faults::first_repeat_by` meets its contract. The loop's invariant: none of the names that were passed stood before, and they
-- were met. Assumes nothing.
use Prim.Native.Nat.{◌-◌, ◌≤◌}
use lib.ListN.{length, take}
use mathlib.Core.Path.{◌≡◌}
use Rattle.tables.proofs.TableLineLaws.{Passing, column_names}
use Rattle.tables.specs.TableLine.{columns_by}
use Rattle.workspace.specs.Met.{Met}
use Rattle.tables.proofs.table_faults.first_repeat_by.Given as goal

abbrev pub invariant-loop-p : goal.invariant-loop-p
invariant-loop-p l = Passing (column_names (columns_by l.triple l.s l.at)) l.n (column_names (columns_by l.triple l.s l.j)) × (l.n ≤ l.j) × Met l.met (take l.n (column_names (columns_by l.triple l.s l.at))) × (length l.met ≡ length l.initial.met)

abbrev pub decreases-loop-p : goal.decreases-loop-p
decreases-loop-p l = length l.s - l.j
