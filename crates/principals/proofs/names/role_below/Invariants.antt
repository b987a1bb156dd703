-- `principals::names::role_below` meets its contract. The loop's invariant: the way up from the present role leads to a exactly when the
-- way up from r does. Assumes nothing.
use Prim.Native.Nat.{ℕ}
use mathlib.Core.List.{List}
use mathlib.Core.Path.{◌≡◌}
use Rattle.document.specs.Policy.{Node, tree_of}
use Rattle.principals.specs.Nodes.{Nodes}
use Rattle.purpose.specs.Compliance.{descends}
use Rattle.principals.proofs.names.role_below.Given as goal

abbrev pub invariant-loop-x : goal.invariant-loop-x
invariant-loop-x l = (text : List ℕ) (ns : List Node) → Nodes 64 text l.ws l.k ns → descends (tree_of ns) l.x l.a ≡ descends (tree_of ns) l.r l.a

abbrev pub decreases-loop-x : goal.decreases-loop-x
decreases-loop-x l = l.x
