-- `program::building::store_number` meets its contract. Assumes nothing.
use lib.Seq.{set_out}
use mathlib.Core.Path.{sym}
use Rattle.program.proofs.building.store_number.Goals as goal

pub returns : goal.returns
returns c = sym (set_out c.args.a.now c.args.k c.args.v c.if-k-a.false)
