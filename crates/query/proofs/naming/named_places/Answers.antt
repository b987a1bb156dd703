-- `query::naming::named_places` meets its contract: the columns that are asked for, then those of the condition; the array has room.
-- Assumes nothing.
use Rattle.query.proofs.NamingLaws.{names_placed}
use Rattle.query.proofs.naming.named_places.Goals as goal

pub returns : goal.returns
returns c = names_placed c.args.s.now c.args.q c.told-places c.store_wanted-k.ensures c.store_tested.ensures
