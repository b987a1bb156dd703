-- `principals::conds::find_cond_role` meets its contract: what is found among the positions is found among the names. Assumes nothing.
use mathlib.Core.Path.{◌∙◌}
use native.Mathlib.Omega.{arith}
use Rattle.principals.proofs.CondRoleLaws.{cond_found}
use Rattle.principals.proofs.conds.find_cond_role.Goals as goal

pub returns-then-k-gt-COND_ROLES : goal.returns-then-k-gt-COND_ROLES
returns-then-k-gt-COND_ROLES c = (λ d cs n. absurd (omega (arith, n.few)), tt)

pub returns : goal.returns
returns c = (λ d cs n. c.find_printed.ensures.0 (omega arith) n.printed ∙ cond_found _ n, c.find_printed.ensures.1)
