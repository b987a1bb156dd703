-- `judging::tests::flag_number` meets its contract. Assumes nothing.
use mathlib.Core.Path.{sym}
use Rattle.judging.proofs.tests.flag_number.Goals as goal

pub returns-then-b : goal.returns-then-b
returns-then-b c = sym c.if-b.true

pub returns : goal.returns
returns c = sym c.if-b.false
