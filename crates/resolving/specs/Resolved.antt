-- Contract: what the code's answers stand for that resolve the names of a query.
use Rattle.std.specs.Prelude.{ℕ, take, List, map, ◌≡◌}
use Rattle.document.specs.Lookup.{column_of}
use Rattle.document.specs.Policy.{Column}
use Rattle.lists.specs.Lists.{or_zero, there}
use Rattle.query.specs.Naming.{words_at}
use Rattle.text.specs.CodeEnds.{offending_of}
use Rattle.text.specs.Offending.{missing}
use Rattle.std.specs.Prelude.{None, Option}

-- the first n words name columns: the answer names the first that none of the columns has, and where there is none the first n
-- numbers are those of the columns
pub record Resolves (cs : List Column) (s : List ℕ) (n : ℕ) (places : List ℕ) (r : Option ℕ) (numbers : List ℕ) : Type 0 where
  pub offends : offending_of s r ≡ missing (λ w. there (column_of cs w)) (words_at s n places)
  pub numbered : r ≡ None → take n numbers ≡ map (λ w. or_zero (column_of cs w)) (words_at s n places)
