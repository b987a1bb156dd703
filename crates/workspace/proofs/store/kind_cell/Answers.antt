-- `workspace::store::kind_cell` meets its contract. Assumes nothing.
use mathlib.Core.Path.{ap, sym}
use Rattle.condition.specs.Answers.{kind_of}
use Rattle.workspace.specs.Cells.{kind_of_cell}
use Rattle.workspace.proofs.store.kind_cell.Goals as goal

pub returns-in-Num : goal.returns-in-Num
unfolding kind_of_cell
returns-in-Num c = ap kind_of (sym c.in-Num.is)

pub returns-in-Name : goal.returns-in-Name
unfolding kind_of_cell
returns-in-Name c = ap kind_of (sym c.in-Name.is)

pub returns-in-Date : goal.returns-in-Date
unfolding kind_of_cell
returns-in-Date c = ap kind_of (sym c.in-Date.is)
