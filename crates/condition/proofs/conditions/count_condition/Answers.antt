-- `condition::conditions::count_condition` meets its contract. Assumes nothing.
use mathlib.Core.Path.{◌∙◌}
use Rattle.condition.proofs.WalkLaws.{walk_counts}
use Rattle.condition.specs.Answers.{naming_by}
use Rattle.condition.specs.CondForm.{condition}
use Rattle.text.specs.Reader.{from}
use Rattle.condition.proofs.conditions.count_condition.Goals as goal

pub returns : goal.returns
returns c = let entry = c.args in
    c.walk_one.ensures ∙ walk_counts (condition (naming_by entry.joined) entry.depth (from entry.s.now entry.at))
