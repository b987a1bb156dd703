-- `purpose::upward` meets its contract. The loop's invariant: the rows passed hold their purposes' ancestors. Assumes nothing.
use Prim.Native.Nat.{◌≤◌}
use mathlib.Core.Path.{◌≡◌}
use lib.ListN.{length}
use Rattle.purpose.specs.Members.{limit}
use Rattle.purpose.specs.Meaning.{tree_held}
use Rattle.purpose.proofs.Closures.{Rows}
use Rattle.purpose.proofs.upward.Given as goal

abbrev pub invariant-loop-i : goal.invariant-loop-i
invariant-loop-i l = (l.i ≤ l.n) × (l.n ≤ limit) × (length l.up ≡ limit) × Rows (tree_held l.t) l.i l.up
