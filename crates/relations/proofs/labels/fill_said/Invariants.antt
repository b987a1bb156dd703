-- `relations::labels::fill_said` meets its contract. Assumes nothing.
use Prim.Native.Nat.{◌-◌, ◌≤◌}
use Rattle.relations.proofs.LabelLaws.{SaidBelow}
use lib.ListN.{length}
use mathlib.Core.Path.{◌≡◌}
use Rattle.relations.proofs.labels.fill_said.Given as goal

abbrev pub invariant-loop-i : goal.invariant-loop-i
invariant-loop-i l = (l.i ≤ 64) × (length l.said ≡ length l.initial.said) × SaidBelow l.sets l.k l.closure l.said l.i
