-- `tables::table_storing::store_columns` meets its contract. The loop's invariant: the columns that were passed are stored, and the others are
-- left. Assumes nothing.
use Prim.Native.Nat.{◌-◌, ◌<◌, ◌≤◌}
use lib.ListN.{length}
use mathlib.Core.List.{map}
use Rattle.document.specs.Meaning.{column_meant}
use Rattle.form.specs.Walks.{column_forms_at}
use Rattle.stepping.proofs.ColumnLaws.{Columned}
use Rattle.stepping.specs.Stored.{LineAt}
use Rattle.tables.proofs.table_storing.store_columns.Given as goal

abbrev pub invariant-loop-j : goal.invariant-loop-j
invariant-loop-j l = (l.c ≤ l.j)
    × (LineAt l.text l.at l.line → l.k < 8 → length (column_forms_at l.line l.cs) ≤ 16 → Columned l.text l.initial.tables l.tables l.k l.c (map column_meant (column_forms_at l.line l.cs)) (map column_meant (column_forms_at l.line l.j)) (map (λ x. 0) (column_forms_at l.line l.cs)) (map (λ x. 0) (column_forms_at l.line l.j)))

abbrev pub decreases-loop-j : goal.decreases-loop-j
decreases-loop-j l = length l.line - l.j
