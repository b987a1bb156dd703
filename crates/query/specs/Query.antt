-- Meaning: queries resolved against a policy, and the faults 12, 15 to 17 and 31 (01, "Queries" and "Asking"; 02, Q-14).
use Rattle.std.specs.Prelude.{ℕ, Bool, cond, not, true, List, [], ◌++◌, ◌∷◌, map, ◌≡◌}
use Rattle.std.proofs.Math.Option
use Rattle.std.proofs.Math.Option.{Option}
use Rattle.calendar.specs.Calendar.{exists}
use Rattle.calendar.specs.DateText.{date_of}
use Rattle.condition.specs.Comparison.{Comparison}
use Rattle.condition.specs.Cond.{Cond, comparisons_in, map_cond}
use Rattle.condition.specs.CondForm.{Compared, Ref, mistyped}
use Rattle.document.specs.Lookup.{column_kind, column_of, columns_of, labelling_at, labelling_of, purpose_of, role_of, table_of}
use Rattle.document.specs.Open.{Opening, column_open, open_to, table_open}
use Rattle.document.specs.Policy.{Column, Policy}
use Rattle.query.specs.QueryForm.{QueryForm, Wanted, has_gaps, map_wanted, named_refs, named_words, selected, withholding_refs}
use Rattle.lists.specs.Lists.{any_of, found, holds_of, keep, member, or_zero, there}
use Rattle.text.specs.Numbers.{Value}
use Rattle.text.specs.Offending.{leftmost, missing, offending_if, unless}
use Rattle.text.specs.Words.{Word, is_called}

-- a table that a query reads: its number, the columns that the query names in it, and those whose closed cells withhold a row
pub record Source : Type 0 where
  pub table : ℕ
  pub named : List ℕ
  pub withholding : List ℕ

-- a resolved query: the purpose by number; the table that it reads; what is wanted, columns by number; and the condition
pub record Query : Type 0 where
  pub purpose : ℕ
  pub source : Source
  pub wanted : Wanted ℕ
  pub condition : Option (Cond Comparison)

-- the columns in its condition, evaluated or not
unfoldable pub tested : Query → List ℕ
tested q = map (λ t. t.of) (comparisons_in q.condition)

-- the query names what it selects and what is in its condition; the condition's columns withhold, and so do the selected ones unless
-- gaps are left: so it is with every query that is not refused with 15
pub record NamesParts (q : Query) : Type 0 where
  pub named : q.source.named ≡ selected q.wanted ++ tested q
  pub withholding : q.source.withholding ≡ cond (has_gaps q.wanted) (tested q) (selected q.wanted ++ tested q)

-- its table is open to its purpose, and so is every column that it names: so it is with every query that is not refused with 17
pub record PartsOpen (d : Policy) (q : Query) : Type 0 where
  pub table : table_open (open_to d q.purpose) (labelling_at d q.source.table) ≡ true
  pub columns : (c : ℕ) → member c q.source.named ≡ true → column_open (open_to d q.purpose) (labelling_at d q.source.table) c ≡ true

-- 12: user, role or purpose unknown
unfoldable pub unknown_party : Policy → QueryForm → Option Word
unknown_party d q = leftmost (
    unless (any_of (λ x. is_called q.user x.name) d.users) q.user
    ∷ unless (there (role_of d q.role)) q.role
    ∷ unless (there (purpose_of d q.purpose)) q.purpose
    ∷ [])

-- 15: table or named column unknown
unfoldable pub unknown_column : Policy → QueryForm → Option Word
unknown_column d q = leftmost (
    unless (there (table_of d q.table)) q.table
    ∷ missing (λ w. there (column_of (columns_of d q.table) w)) (named_words q)
    ∷ [])

-- 16: wrong type in the condition
unfoldable pub mistyped_query : Policy → QueryForm → Option Word
mistyped_query d q =
    leftmost (map (λ x. mistyped (column_kind (columns_of d q.table) x.of) x) (comparisons_in q.condition))

-- the value is a date as a form, and there is no such date (02, Q-14)
unfoldable pub is_missing_date : Value → Bool
is_missing_date v = holds_of (λ x. not (exists x)) (date_of v)

-- 31: no such date, in the condition
unfoldable pub missing_date : QueryForm → Option Word
missing_date q = leftmost (map (λ x. offending_if (is_missing_date x.value.bytes) x.value) (comparisons_in q.condition))

-- what is open to the query's purpose, which is known
unfoldable pub open_for : Policy → QueryForm → Opening
open_for d q = open_to d (or_zero (purpose_of d q.purpose))

-- 17: table or named column closed to the purpose
unfoldable pub closed_part : Policy → QueryForm → Option Word
closed_part d q = leftmost (
    unless (table_open (open_for d q) (labelling_of d q.table)) q.table
    ∷ missing (λ w. column_open (open_for d q) (labelling_of d q.table) (or_zero (column_of (columns_of d q.table) w))) (named_words q)
    ∷ [])

-- the columns of the table t among these, by number; those that it does not have are left out
unfoldable pub columns_in : Policy → Word → List Ref → List ℕ
columns_in d t rs = found (map (λ r. column_of (columns_of d t) r.column) (keep (λ r. is_called r.table t.bytes) rs))

-- the table of this name, which is known, with what the query names in it
unfoldable pub source_of : Policy → QueryForm → Word → Source
source_of d q t = record {
  table = or_zero (table_of d t);
  named = columns_in d t (named_refs q);
  withholding = columns_in d t (withholding_refs q);
}

-- the tables that the query reads; one that the document does not know is left out
unfoldable pub sources : Policy → QueryForm → List Source
sources d q = map (source_of d q) (keep (λ t. there (table_of d t)) (q.table ∷ []))

-- a comparison of a column
unfoldable pub column_comparison : List Column → Compared → Comparison
column_comparison cs x =
    record { of = or_zero (column_of cs x.of); kind = column_kind cs x.of; op = x.op; value = x.value.bytes }

-- what is asked for, columns by number
unfoldable pub wanted_of : List Column → Wanted Word → Wanted ℕ
wanted_of cs w = map_wanted (λ c. or_zero (column_of cs c)) w

-- the query with its names resolved; all of them are known
unfoldable pub resolved : Policy → QueryForm → Query
resolved d q = record {
  purpose = or_zero (purpose_of d q.purpose);
  source = source_of d q q.table;
  wanted = wanted_of (columns_of d q.table) q.wanted;
  condition = Option.map (map_cond (column_comparison (columns_of d q.table))) q.condition;
}
