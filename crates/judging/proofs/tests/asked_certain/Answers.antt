-- `judging::tests::asked_certain` meets its contract. Assumes nothing.
use Rattle.judging.proofs.TestLaws.{asked_even, asked_odd}
use Rattle.judging.proofs.tests.asked_certain.Goals as goal

pub returns-then-odd : goal.returns-then-odd
returns-then-odd c = let a = c.args in asked_odd a.certain a.odd c.if-odd.true

pub returns : goal.returns
returns c = let a = c.args in asked_even a.certain a.odd c.if-odd.false
