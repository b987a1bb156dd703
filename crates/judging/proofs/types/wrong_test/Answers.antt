-- `judging::types::wrong_test` meets its contract. Assumes nothing.
use Rattle.condition.specs.Kinds.{takes}
use Rattle.judging.proofs.TypeLaws.{wrong_nothing, wrong_operator, wrong_value}
use mathlib.Core.Path.{◌∙◌}
use Rattle.judging.proofs.types.wrong_test.Goals as goal

pub returns-then-not-takes_op : goal.returns-then-not-takes_op
returns-then-not-takes_op c = λ s. wrong_operator s c.args.x c.takes_op.result (c.takes_op.ensures ∙ (λ i. takes (c.kind_by.ensures i) (c.op_by.ensures i))) c.if-not-takes_op.true

pub returns-then-x-eq1 : goal.returns-then-x-eq1
returns-then-x-eq1 c = λ s. wrong_nothing s c.args.x c.takes_op.result
    (c.takes_op.ensures ∙ (λ i. takes (c.kind_by.ensures i) (c.op_by.ensures i)))
    c.if-not-takes_op.false c.if-x-eq1.true

pub returns : goal.returns
returns c = λ s. wrong_value s c.args.x c.takes_op.result
    (c.takes_op.ensures ∙ (λ i. takes (c.kind_by.ensures i) (c.op_by.ensures i)))
    c.if-not-takes_op.false c.if-x-eq1.false
