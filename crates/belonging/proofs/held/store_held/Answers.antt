-- `belonging::held::store_held` meets its contract: there is a place for each conditional role. Assumes nothing.
use native.Mathlib.Omega.{arith}
use Rattle.belonging.proofs.held.store_held.Goals as goal

pub returns-then-ccount-le-COND_ROLES : goal.returns-then-ccount-le-COND_ROLES
returns-then-ccount-le-COND_ROLES c d u at of short range values = c.fill_held.ensures d u d.cond_roles (record { attributed = at; timed = range; valued = values }) of short

pub returns-else-ccount-le-COND_ROLES : goal.returns-else-ccount-le-COND_ROLES
returns-else-ccount-le-COND_ROLES c d u at of short range values = absurd (omega (arith, of.few))
