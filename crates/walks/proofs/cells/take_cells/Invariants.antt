-- `walks::cells::take_cells` meets its contract. The loop's invariant: the rows before this one stay, and the cells that were passed
-- are read, judged and stored. Assumes nothing.
use Prim.Native.Nat.{◌-◌, ◌<◌, ◌^◌, ◌≤◌, ℕ}
use lib.ListN.{length}
use mathlib.Core.List.{List, []}
use mathlib.Core.Path.{◌≡◌}
use Rattle.document.specs.Lookup.{columns_at}
use Rattle.document.specs.Policy.{Policy}
use Rattle.relations.specs.Labels.{Labels}
use Rattle.relations.specs.Rows.{FillingRow}
use Rattle.relations.specs.Tables.{Tables}
use Rattle.walks.proofs.CellTurns.{CellsPassed}
use Rattle.walks.specs.Walked.{KeepsRows}
use Rattle.stepping.specs.Stored.{LineAt}
use Rattle.walks.proofs.cells.take_cells.Given as goal

abbrev pub invariant-loop-c : goal.invariant-loop-c
invariant-loop-c l = (l.c ≤ l.n)
    × (length l.line < 2 ^ 64)
    × KeepsRows l.text l.initial.rows l.rows l.k
    × ((d : Policy) (count : ℕ) (sets ls : List ℕ) → LineAt l.text l.at l.line → Labels l.text l.labels sets l.labels_count d.labels → Tables l.text l.tables count
    d.tables → l.x < count → l.n ≡ length
    (columns_at d l.x) → l.k < 1024 → FillingRow l.text l.initial.rows l.k 0 l.m [] ls → CellsPassed l.text l.initial.rows l.rows l.line l.k l.n l.m ls l.c d (columns_at d l.x) l.is l.j)
