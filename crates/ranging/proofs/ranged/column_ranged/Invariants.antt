-- `ranging::ranged::column_ranged` meets its contract. The loop's invariant: the rows gone through have no range there. Assumes nothing.
use Prim.Native.Nat.{◌-◌, ◌<◌, ◌≤◌, ℕ}
use Rattle.document.specs.Policy.{Row}
use Rattle.relations.specs.Rows.{Rows}
use Rattle.ranging.proofs.RangedLaws.{ranged_here}
use mathlib.Core.Bool.{false}
use mathlib.Core.List.{List}
use mathlib.Core.Path.{◌≡◌}
use Rattle.ranging.proofs.ranged.column_ranged.Given as goal

abbrev pub invariant-loop-r : goal.invariant-loop-r
invariant-loop-r l = (l.r ≤ l.count) × ((rs : List Row) → Rows l.text l.rows l.count rs → (i : ℕ) → i < l.r → ranged_here l.text l.rows i l.t l.c ≡ false)
