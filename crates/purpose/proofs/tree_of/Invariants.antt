-- `purpose::tree_of` meets its contract. The loop's invariant: growing the tree so far by the entries left gives the whole. Assumes nothing.
use Prim.Native.Nat.{◌≤◌}
use lib.ListN.{drop, length, take}
use mathlib.Core.Path.{◌≡◌}
use Rattle.purpose.specs.Meaning.{growing, tree_from}
use Rattle.purpose.specs.Members.{limit}
use Rattle.purpose.proofs.tree_of.Given as goal

abbrev pub invariant-loop-i : goal.invariant-loop-i
invariant-loop-i l = (l.n ≤ limit) × (l.i ≤ l.m) × (length l.ps ≡ limit) × (growing (take l.n l.ps) (drop l.i (take l.count l.parents)) ≡ tree_from (take l.count l.parents))
