use mathlib.Core.Path.{◌∙◌}
use Rattle.calendar.proofs.DateValues.{word_rank}
use Rattle.condition.specs.Comparison.{values_meet}
use Rattle.text.proofs.Enclosed.{written_rank}
use Rattle.condition.proofs.comparisons.values_meet.Goals as goal

pub returns-in-Num : goal.returns-in-Num
unfolding values_meet
returns-in-Num c = let x = c.args in
    c.ranks_meet.ensures ∙ rw (c.in-Num.is, c.known_rank.ensures, c.known_rank-in-Num.ensures, written_rank x.b.now x.j)

pub returns-in-Name : goal.returns-in-Name
unfolding values_meet
returns-in-Name c = c.names_meet.ensures ∙ rw c.in-Name.is

pub returns-in-Date : goal.returns-in-Date
unfolding values_meet
returns-in-Date c = let x = c.args in
    c.ranks_meet-in-Date.ensures ∙ rw (c.in-Date.is, c.known_date.ensures, word_rank x.a.now x.i)
