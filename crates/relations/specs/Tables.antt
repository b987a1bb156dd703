-- Contract: how the workspace holds tables: names from 0, schemes from 8, the tables' labels from 16, the numbers of columns from
-- 24; 16 places for each table: the columns' names from 32, types from 160, labels from 288. Behind them stand the notes.
use Rattle.std.specs.Prelude.{◌*◌, ◌+◌, ◌<◌, ◌≤◌, suc, zero, ℕ, get_or, false, List, [], ◌++◌, ◌∷◌, ◌≡◌}
use Rattle.std.proofs.Math.Option.{Option, none}
use Rattle.condition.specs.Kinds.{Kind}
use Rattle.document.specs.Policy.{Column, Noted, Table}
use Rattle.document.specs.Lookup.{given_by, notes_of}
use Rattle.lists.specs.Lists.{there}
use Rattle.form.specs.Form.{Note, Scheme, by_cell, by_column, by_row, by_table, nested, public, unlabelled}
use Rattle.relations.specs.Notes.{Notes}
use Rattle.workspace.specs.Tabulated.{tabulated}
use Rattle.text.specs.Words.{word_at}
use Rattle.form.specs.declared.lines.Scheme as coded
use Rattle.form.specs.declared.lines.Scheme.TheVariants as scheme
use Rattle.workspace.specs.Cells.{kind_of_cell}

-- how many columns table t has
abbrev pub column_count_in : List ℕ → ℕ → ℕ
column_count_in ws t = get_or ws (24 + t) 0

-- the label of table t
abbrev pub table_label_in : List ℕ → ℕ → ℕ
table_label_in ws t = get_or ws (16 + t) 0

-- the type of column c of table t
abbrev pub column_kind_in : List ℕ → ℕ → ℕ → Kind
column_kind_in ws t c = kind_of_cell (get_or ws (160 + 16 * t + c) 0)

-- column c of table t
unfoldable pub column_in : List ℕ → List ℕ → ℕ → ℕ → Column
column_in text ws t c = record { name = word_at text (get_or ws (32 + 16 * t + c) 0); kind = column_kind_in ws t c }

-- the label of column c of table t
abbrev pub column_label_in : List ℕ → ℕ → ℕ → ℕ
column_label_in ws t c = get_or ws (288 + 16 * t + c) 0

-- the labels of the columns of table t
abbrev pub column_labels_in : List ℕ → ℕ → List ℕ
column_labels_in ws t = tabulated (column_label_in ws t) (column_count_in ws t)

-- the scheme by its number, the label of the table, and those of the columns
unfoldable pub scheme_of_cell : ℕ → ℕ → List ℕ → Scheme ℕ
scheme_of_cell zero l ls = unlabelled false
scheme_of_cell (suc zero) l ls = by_table l
scheme_of_cell (suc (suc zero)) l ls = by_column ls
scheme_of_cell (suc (suc (suc zero))) l ls = by_row
scheme_of_cell (suc (suc (suc (suc zero)))) l ls = by_cell
scheme_of_cell (suc (suc (suc (suc (suc n))))) l ls = nested none none

-- the scheme by the code's name for it, with the same labels
unfoldable pub scheme_by : coded.Scheme → ℕ → List ℕ → Scheme ℕ
scheme_by scheme.Unlabelled l ls = unlabelled false
scheme_by scheme.ByTable l ls = by_table l
scheme_by scheme.ByColumn l ls = by_column ls
scheme_by scheme.ByRow l ls = by_row
scheme_by scheme.ByCell l ls = by_cell
scheme_by scheme.Nested l ls = nested none none

unfoldable pub scheme_in : List ℕ → ℕ → Scheme ℕ
scheme_in ws t = scheme_of_cell (get_or ws (8 + t) 0) (table_label_in ws t) (column_labels_in ws t)

-- the columns of table t
abbrev pub columns_in : List ℕ → List ℕ → ℕ → List Column
columns_in text ws t = tabulated (column_in text ws t) (column_count_in ws t)

unfoldable pub table_in : List ℕ → List ℕ → ℕ → Table
table_in text ws t = record { name = word_at text (get_or ws t 0); scheme = scheme_in ws t; columns = columns_in text ws t }

pub record Tables (text ws : List ℕ) (k : ℕ) (ts : List Table) : Type 0 where
  pub few : k ≤ 8
  pub narrow : (t : ℕ) → t < k → column_count_in ws t ≤ 16
  pub are : tabulated (table_in text ws) k ≡ ts

-- the first c columns of table t and their labels, whatever its number of columns says: a table that is being written
pub record Filling (text ws : List ℕ) (t c : ℕ) (cs : List Column) (ls : List ℕ) : Type 0 where
  pub few : c ≤ 16
  pub columns : tabulated (column_in text ws t) c ≡ cs
  pub labels : tabulated (column_label_in ws t) c ≡ ls

-- column c of table t is stored: the tables before it and all notes stay, and the table has one column more
pub record ColumnStored (before after : List ℕ) (t c pos : ℕ) (kind : Kind) (label : ℕ) : Type 0 where
  pub kept : (text : List ℕ) (k : ℕ) (ts : List Table) → k ≤ t → Tables text before k ts → Tables text after k ts
  pub noted : (k : ℕ) (ns : List Noted) → Notes before k ns → Notes after k ns
  pub grown : (text : List ℕ) (cs : List Column) (ls : List ℕ) → t < 8 → c < 16 → Filling text before t c cs ls →
      Filling text after t (c + 1) (cs ++ (record { name = word_at text pos; kind = kind } ∷ [])) (ls ++ (label ∷ []))

-- table k, of so many columns, is added: it stands behind the tables before it, and no note is of it
pub record TableAdded (before after : List ℕ) (k pos : ℕ) (scheme : coded.Scheme) (label width : ℕ) : Type 0 where
  pub grown : (text : List ℕ) (ts : List Table) (cs : List Column) (ls : List ℕ) → Tables text before k ts → k < 8 → Filling text before k width cs ls →
      Tables text after (k + 1) (ts ++ (record { name = word_at text pos; scheme = scheme_by scheme label ls; columns = cs } ∷ []))
  pub noted : (ns : List Noted) → k < 8 → Notes before k ns → Notes after (k + 1) ns

-- table t gets a label by a weak or strong line, which it has not yet: the tables stay, and there is one note more
pub record LabelNoted (before after : List ℕ) (t : ℕ) (note : Note ℕ) (reads : Note ℕ → Option ℕ) : Type 0 where
  pub kept : (text : List ℕ) (k : ℕ) (ts : List Table) → Tables text before k ts → Tables text after k ts
  pub noted : (k : ℕ) (ns : List Noted) → t < k → k ≤ 8 → there (given_by reads (notes_of ns t)) ≡ false → Notes before k ns → Notes after k (ns ++ (record { table = t; note = note } ∷ []))

-- table t is declared public: the tables stay, and there is one note more
pub record PublicStored (before after : List ℕ) (t : ℕ) : Type 0 where
  pub kept : (text : List ℕ) (k : ℕ) (ts : List Table) → Tables text before k ts → Tables text after k ts
  pub noted : (k : ℕ) (ns : List Noted) → t < k → k ≤ 8 → Notes before k ns → Notes after k (ns ++ (record { table = t; note = public } ∷ []))

-- a number of places, as the code reads it: at most so many, and what is stored where that is no more
pub record Cut (most i room stored r : ℕ) : Type 0 where
  pub few : r ≤ most
  pub is : i < room → stored ≤ most → r ≡ stored
