-- Contract: A table line by the places of its words: its scheme and its columns, and what its fault finder gives.
use Rattle.std.specs.Prelude.{◌≤◌, ℕ, length, Bool, false, true, List, ◌≡◌}
use Rattle.document.specs.Policy.{Doc}
use Rattle.stepping.specs.Judged.{Judges}
use Rattle.form.specs.Form.{ColumnForm}
use Rattle.form.specs.Walks.{column_forms_at, labelled_columns_at, pair_end_at, triple_end_at}
use Rattle.form.specs.TableWords.{column_words, table_line}
use Rattle.std.specs.Prelude.{Ok, Result}
use Rattle.form.specs.declared.lines.Scheme as coded
use Rattle.stepping.specs.declared.fault.Fault.{Fault}

-- the columns from a position on, in brackets of three words or of two
unfoldable pub columns_by : Bool → List ℕ → ℕ → List ColumnForm
columns_by true s at = labelled_columns_at s at
columns_by false s at = column_forms_at s at

-- where such a bracket ends
unfoldable pub bracket_end_by : Bool → List ℕ → ℕ → ℕ
bracket_end_by true s at = triple_end_at s at
bracket_end_by false s at = pair_end_at s at

-- what the fault finder of a table line gives: the outcome of its check, and where nothing is wrong at most 16 columns
pub record JudgesTable (Held : Doc → Type 0) (Placed : Type 0) (line : List ℕ) (t : ℕ) (scheme : coded.Scheme) (l cs k : ℕ) (r : Result (Unit {0}) Fault) : Type 0 where
  pub judges : Judges Held Placed line (table_line line t scheme l cs) k 8 r
  pub narrow : r ≡ Ok tt → length (column_words line scheme cs) ≤ 16
