-- Contract: what storing an accepted line in the workspace takes: where the line stands in the text, and that its check finds nothing wrong.
use Rattle.std.specs.Prelude.{◌+◌, ◌≤◌, ℕ, drop, length, List, [], ◌++◌, ◌≡◌}
use Rattle.document.specs.Check.{check_form}
use Rattle.document.specs.Meaning.{add}
use Rattle.document.specs.Policy.{Column, Doc, Noted, Row, Table}
use Rattle.form.specs.Form.{Form}
use Rattle.relations.specs.Notes.{Notes}
use Rattle.relations.specs.Rows.{FillingRow, Rows}
use Rattle.relations.specs.Tables.{Filling, Tables}
use Rattle.text.specs.Numbers.{Value}
use Rattle.text.specs.Refusal.{accepted}
use Rattle.text.specs.Words.{name_bytes, to_closing}

-- the line stands at a position of the text, and what stands behind it goes on with neither a name nor a bracket
pub record LineAt (text : List ℕ) (at : ℕ) (line : List ℕ) : Type 0 where
  pub rest : List ℕ
  pub is : drop at text ≡ line ++ rest
  pub ends : name_bytes rest ≡ []
  pub closes : to_closing rest ≡ []
  pub within : at + length line ≤ length text

-- the check of the form finds nothing wrong
abbrev pub Passes : Doc → List ℕ → Form → Type 0
Passes d line f = check_form d line f ≡ accepted (add d f)

-- ---- for the functions that are not called from outside

-- the columns of table k stand in the workspace, r of them with these labels, and the tables before it and all notes stay
pub record ColumnsFilled (text before after : List ℕ) (k r : ℕ) (cs : List Column) (ls : List ℕ) : Type 0 where
  pub kept : (ts : List Table) → Tables text before k ts → Tables text after k ts
  pub noted : (ns : List Noted) → Notes before k ns → Notes after k ns
  pub filling : Filling text after k r cs ls

-- the values and labels of row k stand in the workspace, c and m of them, and the rows before it stay
pub record RowFilled (text before after : List ℕ) (k c m : ℕ) (vs : List Value) (ls : List ℕ) : Type 0 where
  pub kept : (rs : List Row) → Rows text before k rs → Rows text after k rs
  pub filling : FillingRow text after k c m vs ls
