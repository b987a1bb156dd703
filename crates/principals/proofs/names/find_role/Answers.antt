-- `principals::names::find_role` meets its contract. Assumes nothing.
use native.Mathlib.Omega.{arith}
use Rattle.principals.proofs.names.find_role.Goals as goal

pub returns-then-k-gt-ROLES : goal.returns-then-k-gt-ROLES
returns-then-k-gt-ROLES c = (λ ns n. absurd (omega (arith, n.few)), tt)

pub returns : goal.returns
returns c = (c.seek_node-s.ensures.is, c.seek_node-s.ensures.below)
