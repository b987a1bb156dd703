-- `principals::users::add_user` meets its contract, by the law of one more. Assumes nothing.
use native.Mathlib.Omega.{arith}
use Rattle.principals.proofs.UserLaws.{users_pushed}
use Rattle.principals.proofs.users.add_user.Goals as goal

pub returns-then-k-lt-USERS : goal.returns-then-k-lt-USERS
returns-then-k-lt-USERS c d text us h p l = let a = c.args in
    users_pushed d text a.ws.now a.k a.pos a.role a.start a.end a.place a.h c.told-ws l _ _ _ _ _ _ us
    c.put.ensures c.put-then-k-lt-USERS.ensures c.put-then-k-lt-USERS-2.ensures c.put-then-k-lt-USERS-3.ensures c.put-then-k-lt-USERS-4.ensures c.put-then-k-lt-USERS-5.ensures h p

pub returns-else-k-lt-USERS : goal.returns-else-k-lt-USERS
returns-else-k-lt-USERS c d text us h p l = absurd (omega arith)
