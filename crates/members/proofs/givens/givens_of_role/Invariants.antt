-- `members::givens::givens_of_role` meets its contract. The loop's invariant: all from the loop's place on are the role's exactly when all
-- are. Assumes nothing.
use Prim.Native.Nat.{◌-◌}
use lib.ListN.{length}
use mathlib.Core.Path.{◌≡◌}
use Rattle.document.specs.Policy.{Policy}
use Rattle.document.specs.ValueFaults.{is_attribute_of}
use Rattle.members.proofs.GivenLaws.{given_names}
use Rattle.principals.specs.Attributes.{Attributes}
use Rattle.principals.specs.Nodes.{Nodes}
use Rattle.lists.specs.Lists.{all_of}
use Rattle.members.proofs.givens.givens_of_role.Given as goal

abbrev pub invariant-loop-a : goal.invariant-loop-a
invariant-loop-a l = (d : Policy) → Nodes 64 l.text l.roles l.rcount d.roles → Attributes l.text l.attributes l.k d.attributes → all_of (is_attribute_of d l.role) (given_names l.line l.j) ≡ all_of (is_attribute_of d l.role) (given_names l.line l.gs)

abbrev pub decreases-loop-a : goal.decreases-loop-a
decreases-loop-a l = length l.line - l.j
