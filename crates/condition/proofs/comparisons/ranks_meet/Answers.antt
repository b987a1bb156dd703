use Rattle.condition.specs.Comparison.{ranks_meet}
use Rattle.condition.proofs.comparisons.ranks_meet.Goals as goal

pub returns-in-Eq : goal.returns-in-Eq
unfolding ranks_meet
returns-in-Eq c = rw c.in-Eq.is

pub returns-in-Ne : goal.returns-in-Ne
unfolding ranks_meet
returns-in-Ne c = rw c.in-Ne.is

pub returns-in-Lt : goal.returns-in-Lt
unfolding ranks_meet
returns-in-Lt c = rw c.in-Lt.is

pub returns-in-Le : goal.returns-in-Le
unfolding ranks_meet
returns-in-Le c = rw c.in-Le.is

pub returns-in-Gt : goal.returns-in-Gt
unfolding ranks_meet
returns-in-Gt c = rw c.in-Gt.is

pub returns-in-Ge : goal.returns-in-Ge
unfolding ranks_meet
returns-in-Ge c = rw c.in-Ge.is
