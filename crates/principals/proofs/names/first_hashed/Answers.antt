-- `principals::names::first_hashed` meets its contract: what the slot holds counts if it is the number of a name with that hash.
-- Assumes nothing.
use Rattle.principals.proofs.NodeLaws.{slot_beyond, slot_first, slot_other}
use Rattle.principals.proofs.names.first_hashed.Goals as goal

pub returns-then-ws-room : goal.returns-then-ws-room
returns-then-ws-room c = let a = c.args in
    slot_first a.room a.ws.now a.k a.h c.if-j-k.true c.if-ws-room.true

pub returns-else-ws-room : goal.returns-else-ws-room
returns-else-ws-room c = let a = c.args in
    slot_other a.room a.ws.now a.k a.h c.if-ws-room.false

pub returns-else-j-k : goal.returns-else-j-k
returns-else-j-k c = let a = c.args in
    slot_beyond a.room a.ws.now a.k a.h c.if-j-k.false
