-- `purpose::meets` meets its contract. The loop's invariant: the words passed have no bit in common. Assumes nothing.
use Prim.Native.Nat.{ℕ, ◌≤◌, ◌<◌}
use mathlib.Core.Path.{◌≡◌}
use lib.ListN.{get_or}
use lib.Bits.{bit_and}
use Rattle.purpose.specs.Members.{words}
use Rattle.purpose.proofs.meets.Given as goal

abbrev pub invariant-loop-k : goal.invariant-loop-k
invariant-loop-k l = (l.k ≤ words) × ((j : ℕ) → j < l.k → bit_and (get_or l.a j 0) (get_or l.b j 0) ≡ 0)
