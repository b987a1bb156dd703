-- `relations::labels::say_labels` meets its contract: the array has two places for each label. Assumes nothing.
use Rattle.relations.proofs.labels.say_labels.Goals as goal

pub returns : goal.returns
returns c = c.fill_said.ensures
