-- `answering::answers::put_answer` meets its contract. Assumes nothing.
use Rattle.answering.proofs.Ending.{count_written, lines_written}
use Rattle.answering.proofs.answers.put_answer.Goals as goal

pub returns-then-lines : goal.returns-then-lines
returns-then-lines c = let a = c.args in
    λ d h. lines_written a.said.now a.m a.text.now a.rows.now a.gaps a.columns.now a.marks.now a.chosen a.count a.tally c.requires.0 c.requires.1 c.requires.2 c.if-lines.true (c.put_lines-at.ensures d h) c.put_end.ensures

pub returns : goal.returns
returns c = let a = c.args in
    λ d h. count_written a.said.now a.m a.text.now a.rows.now a.gaps a.columns.now a.marks.now a.chosen a.count a.tally c.requires.0 c.requires.1 c.requires.2 c.if-lines.false c.put_end-2.ensures
