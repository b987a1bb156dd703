-- `resolving::openness::first_closed` meets its contract. The loop's invariant: the columns that were passed are open.
-- Assumes nothing.
use Prim.Native.Nat.{◌-◌, ◌<◌, ◌≤◌, ℕ}
use lib.ListN.{get_or}
use mathlib.Core.Bool.{true}
use mathlib.Core.List.{List}
use mathlib.Core.Path.{◌≡◌}
use Rattle.document.specs.Policy.{Policy}
use Rattle.resolving.proofs.OpennessLaws.{Named, open_at}
use Rattle.text.specs.Words.{word_of}
use Rattle.resolving.proofs.openness.first_closed.Given as goal

abbrev pub invariant-loop-i : goal.invariant-loop-i
invariant-loop-i l = (l.i ≤ l.n) × ((d : Policy) (p : ℕ) (s : List ℕ) → Named l.tables l.t l.said l.places l.n l.columns d p s → (j : ℕ) → j < l.i → open_at l.tables l.t d p (word_of s (get_or l.places j 0)) ≡ true)
