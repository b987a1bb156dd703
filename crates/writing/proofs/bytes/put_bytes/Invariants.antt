-- `writing::bytes::put_bytes` meets its contract. The loop's invariant: to write what is left of s comes to the same as to write s at the start.
-- Assumes nothing.
use Prim.Native.Nat.{◌-◌}
use Rattle.writing.proofs.Writing as w
use lib.ListN.{drop, length}
use Rattle.writing.proofs.bytes.put_bytes.Given as goal

abbrev pub invariant-loop-i : goal.invariant-loop-i
invariant-loop-i l = w.Ahead l.initial.out l.at l.s l.out l.to (drop l.i l.s)
