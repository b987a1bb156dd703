-- `judging::tests::store_tests` meets its contract. The loop's invariant: the comparisons before j are read. Assumes nothing.
use Prim.Native.Nat.{◌-◌, ◌≤◌}
use Rattle.judging.proofs.TestLaws.{ReadTo}
use Rattle.judging.proofs.tests.store_tests.Given as goal

abbrev pub invariant-loop-j : goal.invariant-loop-j
invariant-loop-j l = (l.j ≤ l.m) × ReadTo l.tables l.g l.query l.ops l.columns l.trues l.falses l.flips l.tests l.j
