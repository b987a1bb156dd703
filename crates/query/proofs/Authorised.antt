-- Who is authorised, fact by fact: a grant for an ancestor of the purpose, to a conditional role over a role at or above the
-- user's. Assumes nothing.
use Prim.Native.Nat.{ℕ}
use lib.ListN.{get_elem?}
use mathlib.Core.Bool.{true}
use mathlib.Core.Option.{some}
use mathlib.Core.Path.{◌≡◌}
use Rattle.condition.specs.Cond.{holds}
use Rattle.document.specs.Policy.{CondRole, Grant, Policy, User, tree_of}
use Rattle.lists.proofs.Tests.{and_both}
use Rattle.lists.specs.Lists.{holds_of}
use Rattle.purpose.specs.Compliance.{descends}
use Rattle.query.specs.Authority.{Clock, attribute_meets, authorises, belongs, clock_number}

-- a user whose role descends from the conditional role's belongs to it, if the condition holds
pub belongs_below : (d : Policy) (c : Clock) (u : User) (r : CondRole) → descends (tree_of d.roles) u.role r.role ≡ true
    → holds (λ x. attribute_meets u x (clock_number c x.of)) r.condition ≡ true → belongs d c u r ≡ true
unfolding belongs
belongs_below d c u r below h = and_both (descends (tree_of d.roles) u.role r.role) _ below h

-- a grant authorises every purpose below its own, for a user who belongs to its conditional role
pub authorises_below : (d : Policy) (c : Clock) (u : User) (p : ℕ) (g : Grant) (r : CondRole) → descends (tree_of d.purposes) p g.purpose ≡ true
    → get_elem? d.cond_roles g.cond_role ≡ some r → belongs d c u r ≡ true → authorises d c u p g ≡ true
unfolding authorises holds_of
authorises_below d c u p g r below is h = and_both (descends (tree_of d.purposes) p g.purpose) _ below (rw is h)
