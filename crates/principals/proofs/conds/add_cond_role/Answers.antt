-- `principals::conds::add_cond_role` meets its contract: the array has room. Assumes nothing.
use native.Mathlib.Omega.{arith}
use Rattle.principals.proofs.conds.add_cond_role.Goals as goal

pub returns-then-k-lt-COND_ROLES : goal.returns-then-k-lt-COND_ROLES
returns-then-k-lt-COND_ROLES c d text cs n p l h r = c.store_cond_role.ensures d text cs n p h r

pub returns-else-k-lt-COND_ROLES : goal.returns-else-k-lt-COND_ROLES
returns-else-k-lt-COND_ROLES c d text cs n p l h r = absurd (omega arith)
