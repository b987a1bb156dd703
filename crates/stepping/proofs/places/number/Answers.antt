-- `stepping::places::number` meets its contract, by the answer's cases. Assumes nothing.
use borrow.Author.Rules.{rules}
use Rattle.lists.specs.Lists.{or_zero}
use Rattle.stepping.proofs.places.number.Goals as goal

pub returns-in-Some : goal.returns-in-Some
unfolding or_zero
returns-in-Some c = search rules

pub returns-in-None : goal.returns-in-None
unfolding or_zero
returns-in-None c = search rules
