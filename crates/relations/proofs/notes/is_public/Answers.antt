-- `relations::notes::is_public` meets its contract. Assumes nothing.
use native.Mathlib.Omega.{arith}
use Rattle.relations.proofs.notes.is_public.Goals as goal

pub returns : goal.returns
returns c l = absurd (omega (arith, l, c.if-t-lt-TABLES.false))
