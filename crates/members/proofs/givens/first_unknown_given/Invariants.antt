-- `members::givens::first_unknown_given` meets its contract. The loop's invariant: the first unknown attribute from the loop's place on is
-- the first of all. Assumes nothing.
use Prim.Native.Nat.{◌-◌}
use lib.ListN.{length}
use mathlib.Core.Path.{◌≡◌}
use Rattle.document.specs.Lookup.{attribute_of}
use Rattle.document.specs.Policy.{Policy}
use Rattle.members.proofs.GivenLaws.{given_names}
use Rattle.principals.specs.Attributes.{Attributes}
use Rattle.lists.specs.Lists.{there}
use Rattle.text.specs.Offending.{missing}
use Rattle.members.proofs.givens.first_unknown_given.Given as goal

abbrev pub invariant-loop-a : goal.invariant-loop-a
invariant-loop-a l = (d : Policy) → Attributes l.text l.attributes l.k d.attributes → missing (λ w. there (attribute_of d w)) (given_names l.line l.j) ≡ missing (λ w. there (attribute_of d w)) (given_names l.line l.gs)

abbrev pub decreases-loop-a : goal.decreases-loop-a
decreases-loop-a l = length l.line - l.j
