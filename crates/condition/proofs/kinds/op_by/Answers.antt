-- `condition::kinds::op_by` meets its contract. Assumes nothing.
use Rattle.condition.proofs.OperatorLaws.{operator_over}
use Rattle.condition.proofs.kinds.op_by.Goals as goal
use borrow.Author.Rules.{rules}

pub returns-in_default : goal.returns-in_default
returns-in_default c = search (rules, operator_over)
