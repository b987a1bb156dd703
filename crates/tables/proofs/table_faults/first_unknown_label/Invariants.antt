-- `tables::table_faults::first_unknown_label` meets its contract. The loop's invariant: the first of all that is not known is the first of those
-- that are left. Assumes nothing.
use Prim.Native.Nat.{◌-◌, ℕ}
use lib.ListN.{length}
use mathlib.Core.Bool.{Bool}
use mathlib.Core.List.{List}
use mathlib.Core.Path.{◌≡◌}
use Rattle.document.specs.Policy.{Label}
use Rattle.form.specs.Walks.{column_labels_at}
use Rattle.relations.specs.Labels.{Labels}
use Rattle.lists.specs.Lists.{find_index, there}
use Rattle.text.specs.Offending.{missing}
use Rattle.text.specs.Words.{Word, is_called}
use Rattle.tables.proofs.table_faults.first_unknown_label.Given as goal

-- the word names one of the labels
abbrev pub known : List Label → Word → Bool
known ls w = there (find_index (λ x. is_called w x.name) ls)

abbrev pub invariant-loop-third : goal.invariant-loop-third
invariant-loop-third l = (sets : List ℕ) (ls : List Label) → Labels l.text l.labels sets l.m ls → missing (known ls) (column_labels_at l.line l.at) ≡ missing (known ls) (column_labels_at l.line l.j)

abbrev pub decreases-loop-third : goal.decreases-loop-third
decreases-loop-third l = length l.line - l.j
