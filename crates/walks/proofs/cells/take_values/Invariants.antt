-- `walks::cells::take_values` meets its contract. The loop's invariant: the values that were passed are of their columns' types and
-- stored, and the others are left. Assumes nothing.
use Prim.Native.Nat.{◌-◌, ◌<◌, ◌≤◌, ℕ}
use lib.ListN.{length}
use mathlib.Core.List.{List, []}
use mathlib.Core.Path.{◌≡◌}
use Rattle.document.specs.Lookup.{columns_at}
use Rattle.document.specs.Policy.{Policy}
use Rattle.relations.specs.Rows.{FillingRow}
use Rattle.relations.specs.Tables.{Tables}
use Rattle.walks.proofs.ValueTurns.{ValuesPassed}
use Rattle.walks.specs.Walked.{KeepsRows}
use Rattle.stepping.specs.Stored.{LineAt}
use Rattle.walks.proofs.cells.take_values.Given as goal

abbrev pub invariant-loop-m : goal.invariant-loop-m
invariant-loop-m l = (l.m ≤ l.n)
    × KeepsRows l.text l.initial.rows l.rows l.k
    × ((d : Policy) (count marks : ℕ) (ls : List ℕ) → LineAt l.text l.at l.line → Tables l.text l.tables count d.tables → l.x < count → l.n ≡ length (columns_at d l.x) → l.k < 1024 → FillingRow l.text l.initial.rows l.k 0 marks [] ls → ValuesPassed l.text l.initial.rows l.rows l.line l.k l.n l.m marks ls (columns_at d l.x) l.is l.j)
