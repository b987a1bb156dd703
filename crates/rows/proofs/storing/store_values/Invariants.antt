-- `rows::storing::store_values` meets its contract. The loop's invariant: the values that were passed are stored, and the others are
-- left. Assumes nothing.
use Prim.Native.Nat.{◌-◌, ◌<◌, ◌^◌, ◌≤◌, ℕ}
use lib.ListN.{length}
use mathlib.Core.List.{List, [], map}
use Rattle.stepping.specs.Stored.{LineAt}
use Rattle.form.specs.Walks.{plain_at}
use Rattle.relations.specs.Rows.{FillingRow}
use Rattle.rows.proofs.RowTurns.{Rowed}
use Rattle.rows.proofs.storing.store_values.Given as goal

abbrev pub invariant-loop-w : goal.invariant-loop-w
invariant-loop-w l = (l.c ≤ l.j)
    × (length l.line < 2 ^ 64)
    × ((m : ℕ) (ls : List ℕ) → LineAt l.text l.at l.line → l.k < 1024 → length (plain_at l.line l.is) ≤ 16 → FillingRow l.text l.initial.rows l.k 0 m [] ls → Rowed l.text l.initial.rows l.rows l.k l.c m (map (λ w. w.bytes) (plain_at l.line l.is)) (map (λ w. w.bytes) (plain_at l.line l.j)) ls [])

abbrev pub decreases-loop-w : goal.decreases-loop-w
decreases-loop-w l = length l.line - l.j
