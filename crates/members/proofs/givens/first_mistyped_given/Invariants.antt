-- `members::givens::first_mistyped_given` meets its contract. The loop's invariant: the first value of a wrong type from the loop's place
-- on is the first of all. Assumes nothing.
use Prim.Native.Nat.{◌-◌}
use lib.ListN.{length}
use mathlib.Core.List.{map}
use mathlib.Core.Path.{◌≡◌}
use Rattle.document.specs.Policy.{Policy}
use Rattle.members.proofs.GivenLaws.{mistyped_given}
use Rattle.form.specs.Walks.{givens_at}
use Rattle.principals.specs.Attributes.{Attributes}
use Rattle.text.specs.Offending.{leftmost}
use Rattle.members.proofs.givens.first_mistyped_given.Given as goal

abbrev pub invariant-loop-a : goal.invariant-loop-a
invariant-loop-a l = (d : Policy) → Attributes l.text l.attributes l.k d.attributes → leftmost (map (mistyped_given d) (givens_at l.line l.j)) ≡ leftmost (map (mistyped_given d) (givens_at l.line l.gs))

abbrev pub decreases-loop-a : goal.decreases-loop-a
decreases-loop-a l = length l.line - l.j
