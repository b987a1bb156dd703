use mathlib.Core.Path.{◌∙◌, sym}
use Rattle.condition.proofs.EndsLaws.{no_ends, span_ends}
use Rattle.condition.proofs.ranges.range_ends.Goals as goal

pub returns-in-Some : goal.returns-in-Some
returns-in-Some c = let a = c.args in
    λ b. span_ends a.s.now a.at _ _ _ (sym c.read_range.ensures ∙ c.in-Some.is)

pub returns-in-None : goal.returns-in-None
returns-in-None c = let a = c.args in λ b. no_ends a.s.now a.at (sym c.read_range.ensures ∙ c.in-None.is) b
