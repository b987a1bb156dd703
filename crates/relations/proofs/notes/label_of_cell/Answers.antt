-- `relations::notes::label_of_cell` meets its contract. Assumes nothing.
use Rattle.relations.proofs.NoteLaws.{label_before}
use Rattle.relations.specs.Notes.{label_of_cell}
use mathlib.Core.Path.{ap, sym}
use native.Mathlib.Omega.{arith}
use Rattle.relations.proofs.notes.label_of_cell.Goals as goal

pub returns-then-n-eq0 : goal.returns-then-n-eq0
unfolding label_of_cell
returns-then-n-eq0 c = sym (ap label_of_cell c.if-n-eq0.true)

pub returns : goal.returns
returns c = sym (label_before c.args.n (omega arith))
