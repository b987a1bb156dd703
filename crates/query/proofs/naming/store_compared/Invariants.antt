-- `query::naming::store_compared` meets its contract. The loop's invariant: behind the first k places stand those of the comparisons
-- gone through.
-- Assumes nothing.
use Prim.Native.Nat.{◌-◌}
use Rattle.query.proofs.NamingLaws.{Comparing}
use Rattle.query.proofs.naming.store_compared.Given as goal

abbrev pub invariant-loop-j : goal.invariant-loop-j
invariant-loop-j l = Comparing l.s l.ops l.n l.k l.initial.out l.out l.j l.m
