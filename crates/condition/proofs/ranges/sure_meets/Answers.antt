use mathlib.Core.Bool.{not}
use mathlib.Core.Path.{◌∙◌, ap}
use Rattle.condition.specs.Ranges.{range_meets}
use Rattle.condition.proofs.ranges.sure_meets.Goals as goal

pub returns-in-Eq : goal.returns-in-Eq
unfolding range_meets
returns-in-Eq c = c.ends_are.ensures ∙ rw c.in-Eq.is

pub returns-in-Ne : goal.returns-in-Ne
unfolding range_meets
returns-in-Ne c = ap not c.is_inside.ensures ∙ rw c.in-Ne.is

pub returns-in-Lt : goal.returns-in-Lt
unfolding range_meets
returns-in-Lt c = rw c.in-Lt.is

pub returns-in-Le : goal.returns-in-Le
unfolding range_meets
returns-in-Le c = rw c.in-Le.is

pub returns-in-Gt : goal.returns-in-Gt
unfolding range_meets
returns-in-Gt c = rw c.in-Gt.is

pub returns-in-Ge : goal.returns-in-Ge
unfolding range_meets
returns-in-Ge c = rw c.in-Ge.is
