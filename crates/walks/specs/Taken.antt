-- Contract: A row line that is taken in one walk: it is a row form, the check finds nothing wrong, and the row stands in the workspace.
use Rattle.std.specs.Prelude.{◌+◌, ℕ, eqb, get_or, length, Bool, ◌&&◌, cond, false, true, List, ◌≡◌}
use Rattle.std.proofs.Math.Option.{some}
use Rattle.document.specs.Meaning.{add}
use Rattle.document.specs.Policy.{Doc}
use Rattle.form.specs.Form.{Form, row}
use Rattle.form.specs.FormReader.{form_of, item}
use Rattle.form.specs.Walks.{items_at}
use Rattle.relations.specs.Rows.{Rows}
use Rattle.stepping.specs.Stored.{Passes}
use Rattle.text.specs.Brackets.{many}
use Rattle.text.specs.Bytes.{ascii}
use Rattle.text.specs.CodeEnds.{word_end}
use Rattle.text.specs.Names.{same_name}
use Rattle.text.specs.Reader.{from}
use Rattle.text.specs.Walking.{word_end_at}
use Rattle.text.specs.Words.{name, word_at, word_of}
use Rattle.std.specs.Prelude.{None, Option, Some}

-- the row whose table's name stands behind `(row `, with the items from a place of the line on
abbrev pub row_at : List ℕ → ℕ → Form
row_at line is = row (word_of line 5) (items_at line is)

-- the same with its items behind the table's name: what the line is, if it is a row
abbrev pub row_here : List ℕ → Form
row_here line = row_at line (word_end_at line 5)

-- the line is a row that the check accepts, and it is stored behind the k rows of the document
pub record RowTaken (text line after : List ℕ) (k : ℕ) (d : Doc) : Type 0 where
  pub form : form_of line ≡ some (row_here line)
  pub passes : Passes d line (row_here line)
  pub rows : Rows text after (k + 1) (add d (row_here line)).rows

-- the code's answer: the row is taken, or the rows are as they were
abbrev pub TakesRow : (text line after : List ℕ) → ℕ → Doc → Bool → Type 0
TakesRow text line after k d true = RowTaken text line after k d
TakesRow text line after k d false = Rows text after k d.rows

-- ---- for the functions that are not called from outside

-- where the table's name ends in a line that begins with `(row T`
unfoldable pub table_end : List ℕ → Option ℕ
table_end line = cond (eqb (get_or line 0 0) 40 && same_name (word_at line 1) (ascii "row") && eqb (get_or line 4 0) 32) (word_end (name (from line 5))) None

-- a closing bracket stands at the place, and nothing behind it
unfoldable pub closes_at : List ℕ → ℕ → Bool
closes_at line at = eqb (get_or line at 0) 41 && eqb (at + 1) (length line)

-- the items from a place on are read up to the bracket that ends the line
pub record ItemsClose (line : List ℕ) (is : ℕ) : Type 0 where
  pub end : ℕ
  pub read : word_end (many item (from line is)) ≡ Some end
  pub closed : closes_at line end ≡ true

-- the same as RowTaken, of a line whose items begin at a place
pub record ItemsTaken (text line after : List ℕ) (k is : ℕ) (d : Doc) : Type 0 where
  pub items : ItemsClose line is
  pub passes : Passes d line (row_at line is)
  pub rows : Rows text after (k + 1) (add d (row_at line is)).rows

-- the code's answer for such a line: the row is taken, or the rows are as they were
abbrev pub TakesItems : (text line after : List ℕ) → ℕ → ℕ → Doc → Bool → Type 0
TakesItems text line after k is d true = ItemsTaken text line after k is d
TakesItems text line after k is d false = Rows text after k d.rows
