-- `reasons::cells::nth_row` meets its contract. The loop's invariant: what is sought is the row before which so many of those that are left stand. Assumes nothing.
use Prim.Native.Nat.{◌-◌, ◌≤◌, ℕ}
use Rattle.document.specs.Policy.{Row}
use Rattle.reasons.proofs.RowLaws.{Sought}
use Rattle.relations.specs.Rows.{Rows}
use lib.Dec.{eqb}
use mathlib.Core.List.{List}
use Rattle.reasons.proofs.cells.nth_row.Given as goal

abbrev pub invariant-loop-r : goal.invariant-loop-r
invariant-loop-r l = (l.r ≤ l.count) × ((text : List ℕ) (rs : List Row) → Rows text l.rows l.count rs → Sought (λ (x : Row). eqb x.table l.t) rs l.n l.r l.left)
