use lib.ListN.{get_or-eq_default}
use mathlib.Core.Path.{sym}
use Rattle.program.proofs.running.number_at.Goals as goal

pub returns-else-k-a : goal.returns-else-k-a
returns-else-k-a c = sym (get_or-eq_default c.args.a.now 0 c.if-k-a.false)
