-- `workspace::found::same_length_name` meets its contract. The loop's invariant: the two words are the same from the loop's byte on, if the
-- length is the word's. Assumes nothing.
use Prim.Native.Nat.{◌+◌, ◌-◌, ◌≤◌}
use lib.ListN.{length}
use mathlib.Core.Bool.{true}
use mathlib.Core.Path.{◌≡◌}
use Rattle.text.specs.Names.{same_name}
use Rattle.text.specs.Words.{word_at}
use Rattle.workspace.proofs.found.same_length_name.Given as goal

abbrev pub invariant-loop-q : goal.invariant-loop-q
invariant-loop-q l = (l.q ≤ l.len) × (l.len ≡ length (word_at l.line l.i) → same_name (word_at l.line (l.i + l.q)) (word_at l.text (l.p + l.q)) ≡ true)

abbrev pub decreases-loop-q : goal.decreases-loop-q
decreases-loop-q l = l.q
