-- Contract: places of a line as the code answers them.
use Rattle.std.specs.Prelude.{◌≤◌, ℕ, length, List}
use Rattle.std.specs.Prelude.{None, Option, Some}

-- the place that the code's answer names lies in the line
abbrev pub Near : List ℕ → Option ℕ → Type 0
Near s None = Unit {0}
Near s (Some v) = v ≤ length s
