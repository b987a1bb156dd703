-- `relations::labels::load_words` meets its contract. The loop's invariant: the words passed are those of the array. Assumes nothing.
use Prim.Native.Nat.{◌+◌, ◌-◌, ◌<◌, ◌≤◌, ℕ}
use lib.ListN.{get_or, length}
use mathlib.Core.Path.{◌≡◌}
use Rattle.purpose.specs.Members.{words}
use Rattle.relations.proofs.labels.load_words.Given as goal

abbrev pub invariant-loop-w : goal.invariant-loop-w
invariant-loop-w l = (l.w ≤ words) × (length l.r ≡ words) × ((j : ℕ) → j < l.w → get_or l.r j 0 ≡ get_or l.sets (l.at + j) 0)
