use Prim.Native.Nat.{◌-◌}
use lib.ListN.{length}
use Rattle.condition.proofs.PlaceLaws.{Storing}
use Rattle.condition.proofs.conditions.store_places.Given as goal

abbrev pub invariant-loop-i : goal.invariant-loop-i
invariant-loop-i l = Storing l.s l.at l.end (length l.initial.ops) l.ops l.i l.n
