-- Contract: lines and types as the workspace holds them.
use Rattle.std.specs.Prelude.{◌-◌, suc, zero, ℕ, drop, take, List}
use Rattle.condition.specs.Kinds.{Kind, dates, names, numbers}

-- the bytes of a line that starts at a and ends at e
abbrev pub line_in : List ℕ → ℕ → ℕ → List ℕ
line_in text a e = take (e - a) (drop a text)

-- the type that a number stands for: 0 for numbers, 1 for names, any other for dates
unfoldable pub kind_of_cell : ℕ → Kind
kind_of_cell zero = numbers
kind_of_cell (suc zero) = names
kind_of_cell (suc (suc n)) = dates
