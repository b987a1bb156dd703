-- `workspace::found::seek_printed` meets its contract. The loop's invariant: no name that was passed is the one looked for. Assumes nothing.
use Prim.Native.Nat.{◌+◌, ◌-◌, ◌<◌, ◌≤◌, ℕ}
use lib.ListN.{get_or}
use mathlib.Core.Bool.{false}
use mathlib.Core.Path.{◌≡◌}
use Rattle.workspace.specs.Hash.{Printed}
use Rattle.text.specs.Words.{is_called, word_at, word_of}
use Rattle.workspace.proofs.found.seek_printed.Given as goal

abbrev pub invariant-loop-k : goal.invariant-loop-k
invariant-loop-k l = (l.k ≤ l.n) × (((j : ℕ) → j < l.n → Printed l.prints l.text l.ws j) → (j : ℕ) → j < l.k → is_called (word_of l.line l.i) (word_at l.text (get_or l.ws (0 + j) 0)) ≡ false)
