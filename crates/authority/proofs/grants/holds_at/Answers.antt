-- `authority::grants::holds_at` meets its contract. Assumes nothing.
use mathlib.Core.Path.{sym}
use native.Mathlib.Omega.{arith}
use Rattle.authority.proofs.GrantingLaws.{nothing_there, truth_there}
use Rattle.belonging.specs.Held.{condition_holds}
use Rattle.authority.proofs.grants.holds_at.Goals as goal

pub returns-then-k-c : goal.returns-then-k-c
returns-then-k-c c t u rs e few h = sym (nothing_there (condition_holds t u) rs c.args.c (omega (arith, e)))

pub returns-then-c-lt-COND_ROLES : goal.returns-then-c-lt-COND_ROLES
returns-then-c-lt-COND_ROLES c t u rs e few h = truth_there (condition_holds t u) _ rs c.args.c (omega (arith, e)) (λ x q. h.are c.args.c x q)

pub returns-else-c-lt-COND_ROLES : goal.returns-else-c-lt-COND_ROLES
returns-else-c-lt-COND_ROLES c t u rs e few h = absurd (omega (arith, e, few))
