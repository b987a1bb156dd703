use mathlib.Core.Path.{◌∙◌}
use Rattle.condition.proofs.ranges.range_meets.Goals as goal

pub returns-then-certain : goal.returns-then-certain
returns-then-certain c = c.sure_meets.ensures ∙ rw c.if-certain.true

pub returns : goal.returns
returns c = c.possibly_meets.ensures ∙ rw c.if-certain.false
