-- `answering::lines::keep_size` meets its contract. Assumes nothing.
use lib.Seq.{set_out}
use mathlib.Core.Path.{sym}
use Rattle.answering.proofs.lines.keep_size.Goals as goal

pub returns : goal.returns
returns c = let a = c.args in sym (set_out a.sizes.now a.c a.size c.if-c-sizes.false)
