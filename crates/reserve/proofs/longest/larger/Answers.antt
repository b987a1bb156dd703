-- `reserve::longest::larger` meets its contract. Assumes nothing.
use Rattle.reserve.proofs.SumLaws.{larger_first, larger_second}
use Rattle.reserve.proofs.longest.larger.Goals as goal

pub returns-then-a-b : goal.returns-then-a-b
returns-then-a-b c = larger_second _ _ c.if-a-b.true

pub returns : goal.returns
returns c = larger_first _ _ c.if-a-b.false
