-- `answering::lines::put_end` meets its contract: its parts are written one after the other. Assumes nothing.
use Rattle.answer.specs.Answer.{end_line}
use Rattle.writing.proofs.Writing.{both}
use Rattle.answering.proofs.lines.put_end.Goals as goal

pub returns : goal.returns
unfolding end_line
returns c = both (both (both (both c.put_bytes-a.ensures c.put_decimal-b.ensures) c.put_number-c.ensures) c.put_number-d.ensures) c.put_bytes.ensures
