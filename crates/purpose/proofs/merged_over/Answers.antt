-- `purpose::merged_over` meets its contract. Assumes nothing.
use Rattle.purpose.proofs.Nesting.{over_allowed, over_denied, over_nothing}
use Rattle.purpose.proofs.merged_over.Goals as goal

pub returns-then-lower : goal.returns-then-lower
returns-then-lower c = over_allowed c.args.upper c.args.lower c.if-lower.true

pub returns-then-lower-2 : goal.returns-then-lower-2
returns-then-lower-2 c = over_denied c.args.upper c.args.lower c.if-lower.false c.if-lower-2.true

pub returns : goal.returns
returns c = over_nothing c.args.upper c.args.lower c.if-lower.false c.if-lower-2.false
