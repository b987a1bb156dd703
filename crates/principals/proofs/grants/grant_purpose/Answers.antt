-- `principals::grants::grant_purpose` meets its contract: what the array has is the grant's. Assumes nothing.
use native.Mathlib.Omega.{arith}
use Rattle.principals.proofs.GrantLaws.{grant_below, purpose_there}
use Rattle.principals.proofs.grants.grant_purpose.Goals as goal

pub returns-then-i-lt-GRANTS : goal.returns-then-i-lt-GRANTS
returns-then-i-lt-GRANTS c k gs g h e = purpose_there c.args.ws.now c.args.i k gs g h e

pub returns-else-i-lt-GRANTS : goal.returns-else-i-lt-GRANTS
returns-else-i-lt-GRANTS c k gs g h e = absurd (omega (arith, grant_below c.args.ws.now c.args.i k gs g h e))
