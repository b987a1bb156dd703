-- `principals::names::add_node` meets its contract: the stores put one more behind those that there are. Assumes nothing.
use Rattle.principals.proofs.NodeLaws.{nodes_pushed}
use Rattle.principals.proofs.names.add_node.Goals as goal

pub returns : goal.returns
returns c text ns n named = let a = c.args in
    nodes_pushed a.room text a.ws.now a.k a.pos a.parent a.h _ c.requires.0 c.requires.1 c.requires.2 c.first_hashed-first.ensures ns n named _ _ _ _
    c.put.ensures c.put-2.ensures c.put-3.ensures c.put-4.ensures
