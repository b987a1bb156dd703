-- `loaded::asks::ask_unbounded` meets its contract, by that of `ask_accepted`. Assumes nothing.
use Rattle.loaded.proofs.Chain.{held_gives}
use Rattle.loaded.proofs.asks.ask_unbounded.Goals as goal

pub returns : goal.returns
returns c h = held_gives _ _ h c.counts_of-c.ensures c.ask_accepted.ensures
