-- `answering::lines::kept_size` meets its contract. Assumes nothing.
use lib.ListN.{get_or-eq_default}
use mathlib.Core.Path.{sym}
use Rattle.answering.proofs.lines.kept_size.Goals as goal

pub returns : goal.returns
returns c = sym (get_or-eq_default c.args.sizes.now 0 c.if-c-sizes.false)
