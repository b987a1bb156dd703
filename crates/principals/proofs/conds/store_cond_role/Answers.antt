-- `principals::conds::store_cond_role` meets its contract: the stores put one more behind those that there are. Assumes nothing.
use lib.ListN.{length-set}
use native.Mathlib.Omega.{arith}
use Rattle.principals.proofs.CondRoleLaws.{conds_pushed}
use Rattle.principals.proofs.conds.store_cond_role.Goals as goal

pub bounds-ws-k-2 : goal.bounds-ws-k-2
bounds-ws-k-2 c = simp length-set (omega arith)

pub bounds-ws-k-3 : goal.bounds-ws-k-3
bounds-ws-k-3 c = simp length-set (omega arith)

pub bounds-ws-k-4 : goal.bounds-ws-k-4
bounds-ws-k-4 c = simp length-set (omega arith)

pub bounds-ws-k-5 : goal.bounds-ws-k-5
bounds-ws-k-5 c = simp length-set (omega arith)

pub returns : goal.returns
returns c d text cs n p h r = let a = c.args in
    conds_pushed text a.ws.now a.k a.pos a.role a.start a.end a.place a.h c.requires.0 c.requires.1 d cs n p h r
