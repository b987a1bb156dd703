-- `reasons::labels::first_near` meets its contract. The loop's invariant: the first that is near from the start on is the first from the loop's place on. Assumes nothing.
use Prim.Native.Nat.{◌-◌, ℕ}
use Rattle.document.specs.Policy.{Policy, tree_of}
use Rattle.form.specs.Walks.{names_at}
use Rattle.principals.specs.Nodes.{Nodes}
use Rattle.purpose.specs.Meaning.{ClosureOf}
use Rattle.purpose.specs.Members.{limit}
use Rattle.reasons.proofs.NearLaws.{is_far}
use Rattle.text.specs.Offending.{missing}
use lib.ListN.{length}
use mathlib.Core.Path.{◌≡◌}
use Rattle.reasons.proofs.labels.first_near.Given as goal

abbrev pub invariant-loop-closure : goal.invariant-loop-closure
invariant-loop-closure l = (d : Policy) (p : ℕ) → Nodes limit l.text l.purposes l.k d.purposes → ClosureOf (tree_of d.purposes) p l.closure → missing (is_far d p) (names_at l.text l.j) ≡ missing (is_far d p) (names_at l.text l.at)

abbrev pub decreases-loop-closure : goal.decreases-loop-closure
decreases-loop-closure l = length l.text - l.j
