-- `answering::answers::put_measured` meets its contract. Assumes nothing.
use lib.ListN.{take}
use Rattle.answer.specs.Answer.{counted}
use Rattle.answering.proofs.Ending.{no_room, written}
use Rattle.answering.specs.Lines.{answer_marked, row_shown}
use Rattle.answering.proofs.answers.put_measured.Goals as goal

pub returns-then-out-len : goal.returns-then-out-len
unfolding answer_marked counted
returns-then-out-len c = let a = c.args in
    λ d h. no_room a.out.now (answer_marked (row_shown a.said.now a.m a.text.now a.rows.now a.gaps) (take a.chosen a.columns.now) a.marks.now a.count a.lines a.tally) (c.measure_answer-len.ensures d h) c.if-out-len.true

pub returns : goal.returns
unfolding answer_marked counted
returns c = let a = c.args in
    λ d h. written a.out.now (answer_marked (row_shown a.said.now a.m a.text.now a.rows.now a.gaps) (take a.chosen a.columns.now) a.marks.now a.count a.lines a.tally) (c.measure_answer-len.ensures d h) c.if-out-len.false (c.put_answer.ensures d h)
