-- `query::naming::store_selected` meets its contract. The loop's invariant: the words stored and those from the loop's place on are
-- the columns.
-- Assumes nothing.
use Prim.Native.Nat.{◌-◌}
use lib.ListN.{length}
use Rattle.query.proofs.NamingLaws.{Storing}
use Rattle.query.proofs.naming.store_selected.Given as goal

abbrev pub invariant-loop-k : goal.invariant-loop-k
invariant-loop-k l = Storing l.s l.p (length l.initial.out) l.out l.at l.k

abbrev pub decreases-loop-k : goal.decreases-loop-k
decreases-loop-k l = length l.initial.out - l.k
