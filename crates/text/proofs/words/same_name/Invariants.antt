-- `text::words::same_name` meets its contract. The loop's invariant: what is left of the two words is the same exactly when the whole
-- is. Assumes nothing.
use Prim.Native.Nat.{◌-◌}
use lib.ListN.{length}
use mathlib.Core.Path.{◌≡◌}
use Rattle.text.specs.Names.{same_name}
use Rattle.text.specs.Words.{word_at}
use Rattle.text.proofs.words.same_name.Given as goal

abbrev pub invariant-loop-i : goal.invariant-loop-i
invariant-loop-i l = same_name (word_at l.a l.x) (word_at l.b l.y) ≡ same_name (word_at l.a l.i) (word_at l.b l.j)

abbrev pub decreases-loop-i : goal.decreases-loop-i
decreases-loop-i l = length l.a - l.x
