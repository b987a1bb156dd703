-- Contract: A table line by the code's name for its scheme and the places of its words.
use Rattle.std.specs.Prelude.{ℕ, Bool, false, true, List}
use Rattle.std.proofs.Math.Option.{none}
use Rattle.form.specs.Form.{ColumnForm, Form, Scheme, by_cell, by_column, by_row, by_table, nested, table, unlabelled}
use Rattle.form.specs.Walks.{column_forms_at, column_labels_at, labelled_columns_at}
use Rattle.text.specs.Words.{Word, word_of}
use Rattle.form.specs.declared.lines.Scheme as coded
use Rattle.form.specs.declared.lines.Scheme.TheVariants as scheme

-- the labels of a table of this scheme stand at its columns, so that a column's bracket holds three words and not two
abbrev pub labels_columns : coded.Scheme → Bool
labels_columns scheme.Unlabelled = false
labels_columns scheme.ByTable = false
labels_columns scheme.ByColumn = true
labels_columns scheme.ByRow = false
labels_columns scheme.ByCell = false
labels_columns scheme.Nested = false

-- the scheme with the words of its labels: the table's stands at l, the columns begin at cs
unfoldable pub scheme_words : List ℕ → coded.Scheme → ℕ → ℕ → Scheme Word
scheme_words line scheme.Unlabelled l cs = unlabelled false
scheme_words line scheme.ByTable l cs = by_table (word_of line l)
scheme_words line scheme.ByColumn l cs = by_column (column_labels_at line cs)
scheme_words line scheme.ByRow l cs = by_row
scheme_words line scheme.ByCell l cs = by_cell
scheme_words line scheme.Nested l cs = nested none none

-- the columns that begin at cs
unfoldable pub column_words : List ℕ → coded.Scheme → ℕ → List ColumnForm
column_words line scheme.Unlabelled cs = column_forms_at line cs
column_words line scheme.ByTable cs = column_forms_at line cs
column_words line scheme.ByColumn cs = labelled_columns_at line cs
column_words line scheme.ByRow cs = column_forms_at line cs
column_words line scheme.ByCell cs = column_forms_at line cs
column_words line scheme.Nested cs = column_forms_at line cs

-- the table line whose name stands at t
abbrev pub table_line : List ℕ → ℕ → coded.Scheme → ℕ → ℕ → Form
table_line line t k l cs = table (word_of line t) (scheme_words line k l cs) (column_words line k cs)
