-- `programs::lines::refusal_line` meets its contract: the array has room for the line.
use native.Mathlib.Omega.{arith}
use Rattle.programs.proofs.LineLaws.{line_put, refusal_short}
use Rattle.programs.proofs.lines.refusal_line.Goals as goal

pub returns-clause-prefix_len : goal.returns-clause-prefix_len
returns-clause-prefix_len c = (line_put (omega arith) (refusal_short _) c.put_refusal.ensures).0

pub returns-clause-line_after : goal.returns-clause-line_after
returns-clause-line_after c = (line_put (omega arith) (refusal_short _) c.put_refusal.ensures).1
