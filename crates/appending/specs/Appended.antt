-- Meaning: the row lines of a file's records behind a document (02, Q-1: "desks want them as row lines"): when both together are
-- accepted, and what they mean.
use Rattle.std.specs.Prelude.{◌+◌, ◌≤◌, ℕ, eqb, length, Bool, ◌&&◌, false, not, true, List, [], ◌++◌, ◌∷◌, map, ◌≡◌}
use Rattle.std.proofs.Math.Option.{some}
use Rattle.document.specs.Check.{Accepted, check}
use Rattle.document.specs.Lookup.{columns_at, label_of, scheme_at, scheme_of, table_of}
use Rattle.document.specs.Policy.{Column, Row}
use Rattle.document.specs.TypeFaults.{mistyped_value}
use Rattle.form.specs.Form.{by_row}
use Rattle.csv_text.specs.Records.{Entry, records, split}
use Rattle.lists.specs.Lists.{all_of, is_empty, there}
use Rattle.text.specs.Names.{Name}
use Rattle.text.specs.Refusal.{accepted}
use Rattle.text.specs.Words.{plain_word}

-- the record has a field for each column, and none that is not of its column's type
unfoldable pub fits_columns : List Column → Entry → Bool
fits_columns cs e = eqb (length e.fields) (length cs) && not (there (mistyped_value cs (map plain_word e.fields)))

-- the lines, written for the table t and the label l from these records, may stand behind the document
pub record Appends (doc lines : List ℕ) (t l : Name) (es : List Entry) : Type 0 where
  pub checked : Accepted
  -- the document is accepted
  pub accepts : check doc ≡ accepted checked
  pub table : ℕ
  -- it defines the table
  pub known_table : table_of checked.doc.policy (plain_word t) ≡ some table
  -- the table's rows have a label each
  pub is_by_row : scheme_at checked.doc.policy table ≡ by_row
  pub label : ℕ
  -- it defines the label
  pub known_label : label_of checked.doc.policy (plain_word l) ≡ some label
  -- every record fits the table's columns
  pub fit : all_of (fits_columns (columns_at checked.doc.policy table)) es ≡ true
  -- with a row for each record there are at most 1,024
  pub few : length checked.doc.rows + length es ≤ 1024
  -- with the lines there are at most 60,000 bytes
  pub short : length (doc ++ lines) ≤ 60000

-- the row of a record, in the table and with the label of these numbers
unfoldable pub row_for : ℕ → ℕ → Entry → Row
row_for table label e = record { table = table; values = e.fields; labels = label ∷ [] }

-- the document with one line more for each record, the same policy, and behind its rows one for each record, in order
unfoldable pub appended : Accepted → ℕ → ℕ → List Entry → Accepted
appended a table label es = record {
  lines = a.lines + length es;
  doc = record { policy = a.doc.policy; rows = a.doc.rows ++ map (row_for table label) es };
}

-- What the lines of an imported file do behind a document: where the file's records fit, both together are accepted and mean those
-- rows; and only there, if there is a record and the table is labelled by row. (In a table without labels a line may be accepted
-- as well: what stands for the label is its first value.)
pub record Appended (doc file : List ℕ) (t l : Name) (lines : List ℕ) : Type 0 where
  pub entries : List Entry
  -- these are the file's records
  pub are : records file ≡ split entries
  -- where they fit, each is one row more
  pub meant : (h : Appends doc lines t l entries) → check (doc ++ lines) ≡ accepted (appended h.checked h.table h.label entries)
  -- where the whole is accepted, they fit
  pub only : (a b : Accepted) → check doc ≡ accepted a → scheme_of a.doc.policy (plain_word t) ≡ by_row → is_empty entries ≡ false
      → check (doc ++ lines) ≡ accepted b → Appends doc lines t l entries
