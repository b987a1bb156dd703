-- `relations::labels::store_words` meets its contract. The loop's invariant: the words passed are stored. Assumes nothing.
use Prim.Native.Nat.{◌-◌, ◌≤◌}
use lib.ListN.{length}
use lib.Seq.{paste}
use mathlib.Core.Path.{◌≡◌}
use Rattle.purpose.specs.Members.{words}
use Rattle.relations.proofs.labels.store_words.Given as goal

abbrev pub invariant-loop-w : goal.invariant-loop-w
invariant-loop-w l = (l.w ≤ words) × (length l.sets ≡ length l.initial.sets) × (l.sets ≡ paste l.initial.sets l.at l.s l.w)
