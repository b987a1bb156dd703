-- `query::naming::store_placed` meets its contract: the array has 64 places.
-- Assumes nothing.
use native.Mathlib.Omega.{arith}
use Rattle.query.proofs.naming.store_placed.Goals as goal

pub returns : goal.returns
returns c = record { small = c.store_compared.ensures.small; named = λ h g. c.store_compared.ensures.named (omega (arith, h)) g }
