use Rattle.condition.specs.CondForm.{condition_in_join}
use Rattle.condition.proofs.conditions.read_joined.Goals as goal

pub returns : goal.returns
unfolding condition_in_join
returns c = c.count_condition.ensures
