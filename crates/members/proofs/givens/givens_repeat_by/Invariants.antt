-- `members::givens::givens_repeat_by` meets its contract. The loop's invariant: n values were passed and their names met, and the first repeat
-- behind them is the first of all. Assumes nothing.
use Prim.Native.Nat.{◌-◌, ◌≤◌}
use lib.ListN.{drop, length, take}
use mathlib.Core.Path.{◌≡◌}
use Rattle.members.proofs.GivenLaws.{given_names}
use Rattle.workspace.specs.Met.{Met}
use Rattle.text.specs.Offending.{repeated, repeated_after}
use Rattle.members.proofs.givens.givens_repeat_by.Given as goal

abbrev pub invariant-loop-a : goal.invariant-loop-a
invariant-loop-a l = (l.n ≤ l.j) × (drop l.n (given_names l.line l.gs) ≡ given_names l.line l.j) × (repeated_after (take l.n (given_names l.line l.gs)) (given_names l.line l.j) ≡ repeated (given_names l.line l.gs))
    × Met l.met (take l.n (given_names l.line l.gs)) × (length l.met ≡ length l.initial.met)

abbrev pub decreases-loop-a : goal.decreases-loop-a
decreases-loop-a l = length l.line - l.j
