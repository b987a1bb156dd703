-- `members::givens::role_attributes` meets its contract. The loop's invariant: n of the first i attributes in the array are the role's.
-- Assumes nothing.
use Prim.Native.Nat.{◌-◌, ◌≤◌, ℕ}
use mathlib.Core.List.{List}
use mathlib.Core.Path.{◌≡◌}
use Rattle.document.specs.Policy.{Policy}
use Rattle.members.proofs.GivenLaws.{held_of}
use Rattle.principals.specs.Attributes.{Attributes}
use Rattle.principals.specs.Nodes.{Nodes}
use Rattle.members.proofs.givens.role_attributes.Given as goal

abbrev pub invariant-loop-i : goal.invariant-loop-i
invariant-loop-i l = (l.i ≤ l.k) × (l.k ≤ 32) × (l.n ≤ l.i) × ((text : List ℕ) (d : Policy) → Nodes 64 text l.roles l.rcount d.roles → Attributes text l.attributes l.k d.attributes → l.n ≡ held_of d l.role text l.attributes l.i)
