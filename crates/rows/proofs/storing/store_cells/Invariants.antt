-- `rows::storing::store_cells` meets its contract. The loop's invariant: the values and labels that were passed are stored, and the others are
-- left. Assumes nothing.
use Prim.Native.Nat.{◌+◌, ◌-◌, ◌<◌, ◌^◌, ◌≤◌, ℕ}
use Rattle.document.specs.Lookup.{label_of}
use Rattle.document.specs.Policy.{Policy}
use Rattle.form.specs.Walks.{cells_at}
use Rattle.lists.specs.Lists.{or_zero}
use Rattle.relations.specs.Labels.{Labels}
use Rattle.relations.specs.Rows.{FillingRow}
use Rattle.rows.proofs.RowTurns.{Rowed}
use Rattle.stepping.specs.Stored.{LineAt}
use lib.ListN.{length}
use mathlib.Core.List.{List, [], ◌++◌, map}
use Rattle.rows.proofs.storing.store_cells.Given as goal

abbrev pub invariant-loop-w : goal.invariant-loop-w
invariant-loop-w l = (l.c ≤ l.j)
    × (length l.line < 2 ^ 64)
    × ((d : Policy) (sets ls : List ℕ) → LineAt l.text l.at l.line → Labels l.text l.labels sets l.labels_count d.labels → l.k < 1024 → length
    (cells_at l.line l.is) ≤ 16 → FillingRow l.text l.initial.rows l.k 0 l.m [] ls → Rowed l.text l.initial.rows l.rows l.k l.c (l.m + l.c) (map (λ g. g.0.bytes) (cells_at l.line l.is))
    (map (λ g. g.0.bytes) (cells_at l.line l.j)) (ls ++ map (λ g. or_zero (label_of d g.1)) (cells_at l.line l.is))
    (map (λ g. or_zero (label_of d g.1)) (cells_at l.line l.j)))

abbrev pub decreases-loop-w : goal.decreases-loop-w
decreases-loop-w l = length l.line - l.j
