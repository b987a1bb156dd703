-- Contract: the tree of purposes, as it stands in the array.
use Rattle.std.specs.Prelude.{◌+◌, suc, zero, ℕ, get_or, List}
use Rattle.purpose.specs.Members.{limit}

-- the parent of purpose i; the first has none, and its entry is 0
unfoldable pub parent_in : List ℕ → ℕ → ℕ
parent_in ws zero = 0
parent_in ws (suc i) = get_or ws (limit + suc i) 0
