-- `answering::lines::put_row` meets its contract. Assumes nothing.
use Rattle.answer.specs.Answer.{row_line}
use Rattle.writing.proofs.Writing as w
use Rattle.answering.specs.Lines.{spaced_values}
use Rattle.answering.proofs.lines.put_row.Goals as goal

pub returns : goal.returns
unfolding row_line spaced_values
returns c = λ f. w.both (w.both c.put_bytes-a.ensures (c.put_shown-b.ensures f)) c.put_bytes.ensures
