-- `loaded::asks::ask_loaded` meets its contract: the answer of asking without bounds, or 18. Assumes nothing.
use Rattle.loaded.proofs.Chain.{gives_asks}
use Rattle.loaded.proofs.asks.ask_loaded.Goals as goal

pub returns : goal.returns
returns c h = gives_asks (c.ask_unbounded-a.ensures h) c.within_room.ensures
