use borrow.Author.Tests.{eq-eqb, ne_eqb}
use Rattle.condition.proofs.ranges.ends_are.Goals as goal

pub returns-then-low-n : goal.returns-then-low-n
returns-then-low-n c = rw (eq-eqb _ _ c.if-low-n.true)

pub returns-else-low-n : goal.returns-else-low-n
returns-else-low-n c = rw (ne_eqb _ _ c.if-low-n.false)
