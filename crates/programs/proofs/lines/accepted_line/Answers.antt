-- `programs::lines::accepted_line` meets its contract: the array has room for the line.
use native.Mathlib.Omega.{arith}
use Rattle.programs.proofs.LineLaws.{line_put, accepted_short}
use Rattle.programs.proofs.lines.accepted_line.Goals as goal

pub returns-clause-prefix_len : goal.returns-clause-prefix_len
returns-clause-prefix_len c = (line_put (omega arith) (accepted_short _ _) c.put_accepted.ensures).0

pub returns-clause-line_after : goal.returns-clause-line_after
returns-clause-line_after c = (line_put (omega arith) (accepted_short _ _) c.put_accepted.ensures).1
