-- `purpose::unite` meets its contract. The loop's invariant: the words passed are or-ed. Assumes nothing.
use Prim.Native.Nat.{◌≤◌}
use mathlib.Core.Path.{◌≡◌}
use lib.ListN.{length}
use Rattle.purpose.specs.Members.{words}
use Rattle.purpose.proofs.Words.{United}
use Rattle.purpose.proofs.unite.Given as goal

abbrev pub invariant-loop-k : goal.invariant-loop-k
invariant-loop-k l = (l.k ≤ words) × (length l.r ≡ words) × United l.initial.r l.b l.k l.r
