-- `relations::rows::has_row` meets its contract. The loop's invariant: none of the rows passed lies in the table. Assumes nothing.
use Prim.Native.Nat.{◌-◌, ◌<◌, ◌≤◌, ℕ}
use lib.ListN.{get_or}
use mathlib.Core.Path.{◌≡◌}
use Rattle.relations.proofs.rows.has_row.Given as goal

abbrev pub invariant-loop-r : goal.invariant-loop-r
invariant-loop-r l = (l.r ≤ l.count) × ((q : ℕ) → q < l.r → q < 1024 → get_or l.ws q 0 ≡ l.t → ⊥)
