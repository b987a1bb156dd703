-- `judging::marking::label_said` meets its contract. Assumes nothing.
use Rattle.judging.proofs.OpenCells.{said_missing, said_there}
use Rattle.purpose.specs.Verdicts.{silent}
use Rattle.judging.proofs.marking.label_said.Goals as goal

pub returns-then-i-n : goal.returns-then-i-n
returns-then-i-n c = said_there c.args.said.now c.args.rows.now
    c.args.r c.args.i _ c.row_labels-n.ensures
    c.if-i-n.true c.row_label.result c.row_label.ensures c.said_at.result c.said_at.ensures

pub returns : goal.returns
unfolding silent
returns c = said_missing c.args.said.now c.args.rows.now c.args.r c.args.i _ c.row_labels-n.ensures c.if-i-n.false
