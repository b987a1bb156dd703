use mathlib.Core.Path.{◌∙◌, ap}
use Rattle.condition.proofs.EndsLaws.{range_found}
use Rattle.std.specs.Prelude.{is_some}
use Rattle.condition.proofs.ranges.is_range.Goals as goal

pub returns : goal.returns
returns c = c.is_some.ensures ∙ ap is_some c.read_range.ensures ∙ range_found c.args.s.now c.args.at
