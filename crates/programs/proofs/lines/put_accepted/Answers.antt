-- `programs::lines::put_accepted` meets its contract: its parts stand one behind the other.
use Rattle.writing.proofs.Writing.{both}
use Rattle.programs.specs.Lines.{accepted_line}
use Rattle.programs.proofs.lines.put_accepted.Goals as goal

pub returns : goal.returns
unfolding accepted_line
returns c = both (both (both c.put_bytes-a.ensures c.put_number-b.ensures) c.put_number-c.ensures) c.put_bytes.ensures
