-- `programs::lines::put_refusal` meets its contract: its parts stand one behind the other.
use Rattle.answer.specs.Session.{refusal_line}
use Rattle.writing.proofs.Writing.{both}
use Rattle.programs.proofs.lines.put_refusal.Goals as goal

pub returns : goal.returns
unfolding refusal_line
returns c =
    let called = rw c.number.ensures at c.put_decimal-b.ensures in
    both (both (both (both (both c.put_bytes-a.ensures called) c.put_source-c.ensures) c.put_number-d.ensures) c.put_number-e.ensures) c.put_bytes.ensures
