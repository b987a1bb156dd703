-- `tables::table_storing::store_labelled_columns` meets its contract. The loop's invariant: the columns that were passed are stored with their
-- labels, and the others are left. Assumes nothing.
use Prim.Native.Nat.{◌-◌, ◌<◌, ◌^◌, ◌≤◌, ℕ}
use lib.ListN.{length}
use mathlib.Core.List.{List, map}
use Rattle.document.specs.Lookup.{label_of}
use Rattle.document.specs.Meaning.{column_meant}
use Rattle.document.specs.Policy.{Policy}
use Rattle.form.specs.Walks.{column_labels_at, labelled_columns_at}
use Rattle.relations.specs.Labels.{Labels}
use Rattle.lists.specs.Lists.{or_zero}
use Rattle.stepping.proofs.ColumnLaws.{Columned}
use Rattle.stepping.specs.Stored.{LineAt}
use Rattle.tables.proofs.table_storing.store_labelled_columns.Given as goal

abbrev pub invariant-loop-j : goal.invariant-loop-j
invariant-loop-j l = (l.c ≤ l.j)
    × (length l.line < 2 ^ 64)
    × ((d : Policy) (sets : List ℕ) → LineAt l.text l.at l.line → Labels l.text l.labels sets l.labels_count d.labels → l.k < 8 → length
    (labelled_columns_at l.line l.cs) ≤ 16 → Columned l.text l.initial.tables l.tables l.k l.c (map column_meant (labelled_columns_at l.line l.cs))
    (map column_meant (labelled_columns_at l.line l.j)) (map (λ v. or_zero (label_of d v)) (column_labels_at l.line l.cs))
    (map (λ v. or_zero (label_of d v)) (column_labels_at l.line l.j)))

abbrev pub decreases-loop-j : goal.decreases-loop-j
decreases-loop-j l = length l.line - l.j
