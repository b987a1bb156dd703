-- Contract: what the code finds by a name: a number, or nothing.
use Rattle.std.specs.Prelude.{◌-◌, ◌<◌, ℕ}
use Rattle.std.proofs.Math.Option.{Option, none, some}
use Rattle.condition.specs.Kinds.{names}
use Rattle.std.specs.Prelude as prelude
use Rattle.std.specs.Prelude.{None, Some}

-- the number that the code's answer names, if it names one
abbrev pub found_as : prelude.Option ℕ → Option ℕ
found_as None = none
found_as (Some n) = some n

-- the number that it names is below k
abbrev pub FoundBelow : prelude.Option ℕ → ℕ → Type 0
FoundBelow None k = Unit {0}
FoundBelow (Some n) k = n < k
