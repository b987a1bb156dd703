-- Contract: what is summed of a table's rows, and what has to stand in the workspace for it (02, Q-9).
use Rattle.std.specs.Prelude.{◌+◌, ◌≤◌, ℕ, length, ◌≡◌}
use mathlib.Core.List.{List, [], ◌++◌, ◌∷◌, flatten, map}
use Rattle.answer.specs.Reserve.{whole_line}
use Rattle.answer.specs.Seen.{rows_in}
use Rattle.document.specs.Policy.{Doc, Row}
use Rattle.relations.specs.Rows.{Rows, row_in, value_count_in}
use Rattle.reserve.specs.declared.sums.Sum.{Sum}

-- the sum s is that of these rows: how many they are, and how long their lines are with all columns
pub record Sums (rs : List Row) (s : Sum) : Type 0 where
  pub count : s.count ≡ length rs
  pub bytes : s.bytes ≡ length (flatten (map (λ r. whole_line r.values) rs))

-- the sum x is s with row r, where that lies in table t
pub record Adds (text ws : List ℕ) (r t : ℕ) (s x : Sum) : Type 0 where
  pub sums : (rs : List Row) → value_count_in ws r ≤ 16 → Sums (rows_in t rs) s → Sums (rows_in t (rs ++ (row_in text ws r ∷ []))) x
  pub count : x.count ≤ s.count + 1
  pub bytes : x.bytes ≤ s.bytes + 960022

-- the text is no longer than a document may be, and the rows ws of d are held there, n of them, beside k tables
pub record HoldsRows (text ws : List ℕ) (k n : ℕ) (d : Doc) : Type 0 where
  pub small : length text ≤ 60000
  pub few : k ≤ 8
  pub tables : length d.policy.tables ≡ k
  pub rows : Rows text ws n d.rows
