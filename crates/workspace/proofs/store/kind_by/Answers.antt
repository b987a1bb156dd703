-- `workspace::store::kind_by` meets its contract. Assumes nothing.
use mathlib.Core.Path.{ap, sym}
use Rattle.workspace.proofs.CellLaws.{kind_dates}
use Rattle.workspace.specs.Cells.{kind_of_cell}
use Rattle.workspace.proofs.store.kind_by.Goals as goal

pub returns-then-n-eq0 : goal.returns-then-n-eq0
unfolding kind_of_cell
returns-then-n-eq0 c = ap kind_of_cell (sym c.if-n-eq0.true)

pub returns-then-n-eq1 : goal.returns-then-n-eq1
unfolding kind_of_cell
returns-then-n-eq1 c = ap kind_of_cell (sym c.if-n-eq1.true)

pub returns : goal.returns
returns c = sym (kind_dates c.args.n c.if-n-eq0.false c.if-n-eq1.false)
