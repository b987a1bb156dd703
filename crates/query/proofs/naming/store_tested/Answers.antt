-- `query::naming::store_tested` meets its contract: the comparisons of a condition stand where read_places stored. Assumes nothing.
use Rattle.query.proofs.NamingLaws.{tested_always, tested_when}
use Rattle.query.proofs.naming.store_tested.Goals as goal

pub returns-in-Always : goal.returns-in-Always
returns-in-Always c = tested_always c.args.s.now c.args.k c.args.out.now _ c.in-Always.is

pub returns-in-When : goal.returns-in-When
returns-in-When c = tested_when c.args.s.now
    c.in-When.is c.read_places.ensures
    c.store_placed.ensures
