-- `query::reading::count_names` meets its contract. The loop's invariant: the names counted and those from the loop's place on are the
-- names from the start on; no more are counted than bytes passed.
-- Assumes nothing.
use Prim.Native.Nat.{◌+◌, ◌-◌, ◌≤◌}
use lib.ListN.{length}
use mathlib.Core.Path.{◌≡◌}
use Rattle.form.specs.Walks.{names_at}
use Rattle.query.proofs.reading.count_names.Given as goal

abbrev pub invariant-loop-i : goal.invariant-loop-i
invariant-loop-i l = (l.n + length (names_at l.s l.i) ≡ length (names_at l.s l.at)) × (l.n ≤ l.i)

abbrev pub decreases-loop-i : goal.decreases-loop-i
decreases-loop-i l = length l.s - l.i
