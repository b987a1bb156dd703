-- `rows::faults::first_unknown_label` meets its contract. The loop's invariant: the first label that is not known is the first
-- among those left. Assumes nothing.
use Prim.Native.Nat.{◌-◌, ℕ}
use lib.ListN.{length}
use mathlib.Core.List.{List}
use mathlib.Core.Path.{◌≡◌}
use Rattle.document.specs.Lookup.{label_of}
use Rattle.document.specs.NameFaults.{bracket_labels}
use Rattle.document.specs.Policy.{Policy}
use Rattle.form.specs.Walks.{items_at}
use Rattle.relations.specs.Labels.{Labels}
use Rattle.lists.specs.Lists.{there}
use Rattle.text.specs.Offending.{missing}
use Rattle.rows.proofs.faults.first_unknown_label.Given as goal

abbrev pub invariant-loop-k : goal.invariant-loop-k
invariant-loop-k l = (sets : List ℕ) (d : Policy) → Labels l.text l.labels sets l.k d.labels → missing (λ w. there (label_of d w)) (bracket_labels (items_at l.line l.at)) ≡ missing (λ w. there (label_of d w)) (bracket_labels (items_at l.line l.i))

abbrev pub decreases-loop-k : goal.decreases-loop-k
decreases-loop-k l = length l.line - l.i
