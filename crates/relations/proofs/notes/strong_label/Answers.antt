-- `relations::notes::strong_label` meets its contract. Assumes nothing.
use native.Mathlib.Omega.{arith}
use Rattle.relations.proofs.notes.strong_label.Goals as goal

pub returns : goal.returns
returns c l = absurd (omega (arith, l, c.if-t-lt-TABLES.false))
