-- `judging::types::mistyped_test` meets its contract. The loop's invariant: the comparisons that were passed are of the right type.
-- Assumes nothing.
use Prim.Native.Nat.{◌-◌, ◌<◌, ◌≤◌, ℕ}
use Rattle.judging.specs.Reading.{wrong_by}
use Rattle.judging.specs.Tests.{test_in}
use mathlib.Core.List.{List}
use mathlib.Core.Option.{none}
use mathlib.Core.Path.{◌≡◌}
use Rattle.judging.proofs.types.mistyped_test.Given as goal

abbrev pub invariant-loop-j : goal.invariant-loop-j
invariant-loop-j l = (l.j ≤ l.m) × ((s : List ℕ) (i : ℕ) → i < l.j → wrong_by s (test_in l.tests i) ≡ none)
