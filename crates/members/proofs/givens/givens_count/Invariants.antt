-- `members::givens::givens_count` meets its contract. The loop's invariant: what was counted and what is left are all. Assumes nothing.
use Prim.Native.Nat.{◌+◌, ◌-◌, ◌≤◌}
use lib.ListN.{length}
use mathlib.Core.Path.{◌≡◌}
use Rattle.form.specs.Walks.{givens_at}
use Rattle.members.proofs.givens.givens_count.Given as goal

abbrev pub invariant-loop-j : goal.invariant-loop-j
invariant-loop-j l = (l.n ≤ l.j) × (l.n + length (givens_at l.line l.j) ≡ length (givens_at l.line l.gs))

abbrev pub decreases-loop-j : goal.decreases-loop-j
decreases-loop-j l = length l.line - l.j
