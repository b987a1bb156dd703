-- `purpose::relatives` meets its contract. The loop's invariant: the purposes passed whose rows have p are in. Assumes nothing.
use Prim.Native.Nat.{◌≤◌}
use Rattle.purpose.proofs.Closures.{Near}
use Rattle.purpose.proofs.relatives.Given as goal

abbrev pub invariant-loop-i : goal.invariant-loop-i
invariant-loop-i l = (l.i ≤ l.n) × Near l.up l.p l.i l.r
