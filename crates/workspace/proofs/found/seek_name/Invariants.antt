-- `workspace::found::seek_name` meets its contract. The loop's invariant: no name that was passed is the one looked for, if that ends
-- where it is said to. Assumes nothing.
use Prim.Native.Nat.{◌+◌, ◌-◌, ◌<◌, ◌≤◌, ℕ}
use lib.ListN.{get_or, length}
use mathlib.Core.Bool.{false}
use mathlib.Core.Path.{◌≡◌}
use Rattle.text.specs.Words.{is_called, word_at, word_of}
use Rattle.workspace.proofs.found.seek_name.Given as goal

abbrev pub invariant-loop-k : goal.invariant-loop-k
invariant-loop-k l = (l.k ≤ l.n) × (l.e ≡ l.i + length (word_at l.line l.i) → (j : ℕ) → j < l.k → is_called (word_of l.line l.i) (word_at l.text (get_or l.ws (l.base + j) 0)) ≡ false)
