use lib.ListN.{get_or-eq_default}
use mathlib.Core.Bool.{false}
use mathlib.Core.Path.{sym}
use Rattle.program.proofs.running.flag_at.Goals as goal

pub returns-else-k-a : goal.returns-else-k-a
returns-else-k-a c = sym (get_or-eq_default c.args.a.now false c.if-k-a.false)
