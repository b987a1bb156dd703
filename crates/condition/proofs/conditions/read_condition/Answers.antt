use Rattle.condition.specs.CondForm.{condition_in_form}
use Rattle.condition.proofs.conditions.read_condition.Goals as goal

pub returns : goal.returns
unfolding condition_in_form
returns c = c.count_condition.ensures
