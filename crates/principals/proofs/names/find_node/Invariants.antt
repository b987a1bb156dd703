-- `principals::names::find_node` meets its contract. The loop's invariant: no name that was passed is the one looked for. Assumes nothing.
use Prim.Native.Nat.{◌-◌, ◌<◌, ◌≤◌, ℕ}
use lib.ListN.{get_or, length}
use mathlib.Core.Bool.{false}
use mathlib.Core.List.{List}
use mathlib.Core.Path.{◌≡◌}
use Rattle.document.specs.Policy.{Node}
use Rattle.workspace.specs.Hash.{hash_of}
use Rattle.principals.specs.Nodes.{Nodes}
use Rattle.text.specs.Words.{is_called, word_at, word_of}
use Rattle.principals.proofs.names.find_node.Given as goal

abbrev pub invariant-loop-j : goal.invariant-loop-j
invariant-loop-j l = (l.j ≤ l.k) × ((ns : List Node) → Nodes l.room l.text l.ws l.k ns → l.len ≡ length (word_at l.line l.i) → l.h ≡ hash_of (word_at l.line l.i) → (m : ℕ) → m < l.j → is_called (word_of l.line l.i) (word_at l.text (get_or l.ws m 0)) ≡ false)
