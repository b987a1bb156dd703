-- Meaning: ranges in the columns that a query names (02, Q-3, Q-12): 27.
use Rattle.std.specs.Prelude.{ℕ, get_or, Bool, cond, not, [], map}
use Rattle.std.proofs.Math.Option.{Option, none}
use Rattle.answer.specs.Seen.{rows_in}
use Rattle.condition.specs.CondForm.{Ref}
use Rattle.document.specs.Lookup.{column_of, columns_of, table_of}
use Rattle.document.specs.Policy.{Doc, Row}
use Rattle.lists.specs.Lists.{any_of, or_zero}
use Rattle.query.specs.Join.{side_of}
use Rattle.query.specs.JoinForm.{JoinForm, Request, join_refs, joined, one}
use Rattle.query.specs.QueryForm.{QueryForm, admits_ranges, named_words}
use Rattle.text.specs.Amounts.{is_range}
use Rattle.text.specs.Offending.{leftmost, missing, offending_if}
use Rattle.text.specs.Words.{Word}

-- the value of the row in column c is a range
unfoldable pub ranged_at : ℕ → Row → Bool
ranged_at c r = is_range (get_or r.values c [])

-- there is a range in column c of table t: in any row, be it withheld or not
unfoldable pub has_range : Doc → (t c : ℕ) → Bool
has_range d t c = any_of (ranged_at c) (rows_in t d.rows)

-- the same of a column of the query's table, by its word; table and column are known
unfoldable pub ranged_word : Doc → QueryForm → Word → Bool
ranged_word d q w = has_range d (or_zero (table_of d.policy q.table)) (or_zero (column_of (columns_of d.policy q.table) w))

-- 27: a range in a named column, be it open or closed, of a query that takes none
unfoldable pub ranged_column : Doc → QueryForm → Option Word
ranged_column d q = cond (admits_ranges q.wanted) none (missing (λ w. not (ranged_word d q w)) (named_words q))

-- the same of a named column of a join
unfoldable pub ranged_ref : Doc → JoinForm → Ref → Option Word
ranged_ref d j r = offending_if (has_range d (or_zero (table_of d.policy (side_of d.policy j r))) (or_zero (column_of (columns_of d.policy (side_of d.policy j r)) r.column))) r.column

-- 27 of a query of any kind: a join takes no ranges (02, Q-12)
abbrev pub ranged_in : Doc → Request → Option Word
ranged_in d (one q) = ranged_column d q
ranged_in d (joined j) = leftmost (map (ranged_ref d j) (join_refs j))
