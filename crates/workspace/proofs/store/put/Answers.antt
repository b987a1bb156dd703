-- `workspace::store::put` meets its contract: behind the end nothing changes. Assumes nothing.
use lib.Seq.{set_out}
use mathlib.Core.Path.{sym}
use Rattle.workspace.proofs.store.put.Goals as goal

pub returns-else-at-ws : goal.returns-else-at-ws
returns-else-at-ws c = sym (set_out c.args.ws.now c.args.at c.args.v c.if-at-ws.false)
