-- `authority::grants::first_grant` meets its contract. The invariants: no grant that was passed authorises the purpose; the way up from
-- the present role leads to the conditional role's exactly when that from the user's role does. Assumes nothing.
use Prim.Native.Nat.{◌-◌, ◌<◌, ℕ}
use mathlib.Core.Bool.{false}
use mathlib.Core.List.{List}
use mathlib.Core.Path.{◌≡◌}
use Rattle.authority.proofs.GrantingLaws.{Told, passes}
use Rattle.document.specs.Policy.{Node, tree_of}
use Rattle.principals.specs.Nodes.{Nodes}
use Rattle.std.specs.Prelude.{None}
use Rattle.purpose.specs.Compliance.{descends}
use Rattle.authority.proofs.grants.first_grant.Given as goal

abbrev pub invariant-roles : goal.invariant-roles
invariant-roles l = (l.found ≡ l.initial.found) × ((text : List ℕ) (ns : List Node) → Nodes 64 text l.roles l.rcount ns → descends (tree_of ns) l.r l.target ≡ descends (tree_of ns) l.role l.target)

abbrev pub decreases-roles : goal.decreases-roles
decreases-roles l = l.r

abbrev pub invariant-grants : goal.invariant-grants
invariant-grants l = (l.found ≡ None) × ((t : Told l.closure l.roles l.rcount l.conds l.ccount l.grants l.gcount l.held l.role) (j : ℕ) → j < l.i → passes t j ≡ false)

abbrev pub decreases-grants : goal.decreases-grants
decreases-grants l = l.gcount - l.i
