-- `judging::types::missing_date` meets its contract. The loop's invariant: no value that was passed is a date that does not exist.
-- Assumes nothing.
use Prim.Native.Nat.{◌-◌, ◌<◌, ◌≤◌, ℕ}
use Rattle.judging.specs.Reading.{missing_by}
use Rattle.judging.specs.Tests.{test_in}
use mathlib.Core.Option.{none}
use mathlib.Core.Path.{◌≡◌}
use Rattle.judging.proofs.types.missing_date.Given as goal

abbrev pub invariant-loop-j : goal.invariant-loop-j
invariant-loop-j l = (l.j ≤ l.m) × ((i : ℕ) → i < l.j → missing_by l.query (test_in l.tests i) ≡ none)
