-- `principals::grants::add_grant` meets its contract, by the law of one more. Assumes nothing.
use native.Mathlib.Omega.{arith}
use Rattle.principals.proofs.GrantLaws.{grants_pushed}
use Rattle.principals.proofs.grants.add_grant.Goals as goal

pub returns-then-k-lt-GRANTS : goal.returns-then-k-lt-GRANTS
returns-then-k-lt-GRANTS c gs h l = let a = c.args in
    grants_pushed a.ws.now a.k a.purpose a.cond_role c.told-ws l _ _ gs c.put.ensures c.put-then-k-lt-GRANTS.ensures h

pub returns-else-k-lt-GRANTS : goal.returns-else-k-lt-GRANTS
returns-else-k-lt-GRANTS c gs h l = absurd (omega arith)
