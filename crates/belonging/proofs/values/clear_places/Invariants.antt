-- `belonging::values::clear_places` meets its contract. The loop's invariant: the places passed are 0. Assumes nothing.
use Prim.Native.Nat.{◌-◌, ◌≤◌}
use lib.ListN.{drop, length, replicate}
use mathlib.Core.List.{◌++◌}
use mathlib.Core.Path.{◌≡◌}
use Rattle.belonging.proofs.values.clear_places.Given as goal

abbrev pub invariant-loop-i : goal.invariant-loop-i
invariant-loop-i l = (l.i ≤ length l.places) × (length l.places ≡ length l.initial.places) × (l.places ≡ replicate l.i 0 ++ drop l.i l.initial.places)
