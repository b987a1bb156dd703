-- `authority::grants::role_parent` meets its contract. Assumes nothing.
use Prim.Native.Nat.{◌≤◌}
use lib.ListN.{get_or-eq_default}
use mathlib.Core.Path.{subst, sym}
use native.Mathlib.Omega.{arith}
use Rattle.document.specs.Policy.{tree_of}
use Rattle.principals.proofs.NodeLaws.{tree_length, tree_parent}
use Rattle.authority.proofs.grants.role_parent.Goals as goal

pub returns-then-k-r : goal.returns-then-k-r
returns-then-k-r c text ns n = sym (get_or-eq_default (tree_of ns) c.args.r (subst (λ m. m ≤ c.args.r) (sym (tree_length n)) c.if-k-r.true))

pub returns-then-r-lt-ROLES : goal.returns-then-r-lt-ROLES
returns-then-r-lt-ROLES c text ns n = sym (tree_parent n c.args.r (omega arith))
