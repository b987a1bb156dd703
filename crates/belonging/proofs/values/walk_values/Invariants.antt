-- `belonging::values::walk_values` meets its contract. The loop's invariant: the values stored and those still to come are all. Assumes
-- nothing.
use Prim.Native.Nat.{◌-◌}
use lib.ListN.{length, replicate}
use mathlib.Core.Path.{◌≡◌}
use Rattle.belonging.proofs.ValueLaws.{Walked}
use Rattle.belonging.proofs.values.walk_values.Given as goal

abbrev pub invariant-loop-a : goal.invariant-loop-a
invariant-loop-a l = (length l.places ≡ length l.initial.places) × (length l.initial.places ≡ 35 → l.initial.places ≡ replicate (length l.initial.places) 0 → Walked l.text l.attributes l.k l.line l.place l.places l.j)

abbrev pub decreases-loop-a : goal.decreases-loop-a
decreases-loop-a l = length l.line - l.j
