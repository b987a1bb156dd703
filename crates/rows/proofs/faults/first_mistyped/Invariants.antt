-- `rows::faults::first_mistyped` meets its contract. The loop's invariant: the first value of the wrong type is the first among
-- those left. Assumes nothing.
use Prim.Native.Nat.{◌-◌, ◌<◌, ℕ}
use lib.ListN.{drop}
use mathlib.Core.List.{List}
use mathlib.Core.Path.{◌≡◌}
use Rattle.document.specs.Lookup.{columns_at}
use Rattle.document.specs.Policy.{Policy}
use Rattle.document.specs.TypeFaults.{mistyped_value}
use Rattle.rows.specs.RowWords.{values_at}
use Rattle.relations.specs.Tables.{Tables}
use Rattle.rows.proofs.faults.first_mistyped.Given as goal

abbrev pub invariant-loop-c : goal.invariant-loop-c
invariant-loop-c l = (text : List ℕ) (k : ℕ) (d : Policy) → Tables text l.tables k d.tables → l.t < k → mistyped_value (columns_at d l.t) (values_at l.line l.at) ≡ mistyped_value (drop l.c (columns_at d l.t)) (values_at l.line l.i)
