-- `resolving::columns::resolve_columns` meets its contract: both arrays have 80 places.
-- Assumes nothing.
use native.Mathlib.Omega.{arith}
use Rattle.resolving.proofs.columns.resolve_columns.Goals as goal

pub returns : goal.returns
returns c = λ d k h l q. c.resolve_in.ensures d k h l (omega (arith, q)) (omega (arith, q))
