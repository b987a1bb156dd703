-- Meaning: ranges, `(LOW HIGH)` (02, Q-12).
use Rattle.std.specs.Prelude.{ℕ, Bool}
use Rattle.std.proofs.Math.Option.{Option}
use Rattle.lists.specs.Lists.{there}
use Rattle.text.specs.Brackets.{bracketed, next}
use Rattle.text.specs.Numbers.{Value}
use Rattle.text.specs.Reader.{Reader, ◌>>=◌, give, whole}
use Rattle.text.specs.Words.{read_number}

-- the numbers from LOW to HIGH, by the ranks of these two
pub record Range : Type 0 where
  pub low : ℕ
  pub high : ℕ

-- `(LOW HIGH)`
unfoldable pub range : Reader Range
range = bracketed do
  l ← read_number
  h ← next read_number
  give (record { low = l; high = h })

-- the range that a value is, if it is one
unfoldable pub range_of : Value → Option Range
range_of v = whole range v

-- the value is a range
unfoldable pub is_range : Value → Bool
is_range v = there (range_of v)
