-- `answering::answers::measure_answer` meets its contract: what stands behind an answer written from 0 on is its length.
-- Assumes nothing.
use Rattle.answering.proofs.Ending.{size_written}
use Rattle.answering.proofs.answers.measure_answer.Goals as goal

pub returns : goal.returns
returns c = λ d h. size_written (c.put_answer.ensures d h)
