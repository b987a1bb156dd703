-- Meaning: what is open to a purpose, by the scheme of a table (01, "Queries": query modification; 02, Q-2, Q-11).
use Rattle.std.specs.Prelude.{suc, ℕ, Bool, false, not, true, List}
use Rattle.std.proofs.Math.ListN.{get_elem?}
use Rattle.std.proofs.Math.Option.{Option, get_or, map, bind, some}
use Rattle.document.specs.Policy.{Policy, tree_of}
use Rattle.form.specs.Form.{Scheme, by_cell, by_column, by_row, by_table, nested, unlabelled}
use Rattle.purpose.specs.Compliance.{Marks, opens}
use Rattle.purpose.specs.Nest.{nest_opens, unmarked}
use Rattle.lists.specs.Lists.{any_of, holds_of}

-- the label of this number is open to the purpose p; one that is not there is closed
unfoldable pub label_open : Policy → ℕ → Option ℕ → Bool
label_open d p l = holds_of (λ x. opens (tree_of d.purposes) x.marks p) (bind l (get_elem? d.labels))

-- the purposes that the label of this number allows and denies; of one that is not there, none (02, Q-11)
unfoldable pub marks_at : Policy → Option ℕ → Marks
marks_at d l = get_or (map (λ x. x.marks) (bind l (get_elem? d.labels))) unmarked

-- a cell of a nest table is open to the purpose p, by the numbers of the strong label of its table and the weak ones of its table, its
-- row and itself (02, Q-11)
unfoldable pub nest_open : Policy → ℕ → (strong table row cell : Option ℕ) → Bool
nest_open d p strong table row cell = nest_opens (tree_of d.purposes) (marks_at d strong) (marks_at d table) (marks_at d row) (marks_at d cell) p

-- what is open to one purpose: a label by its number, and a cell of a nest table by the numbers of its four labels
pub record Opening : Type 0 where
  pub label : Option ℕ → Bool
  pub nest : (strong table row cell : Option ℕ) → Bool

-- what is open to the purpose p
abbrev pub open_to : Policy → ℕ → Opening
open_to d p = record { label = label_open d p; nest = nest_open d p }

module _ (opening : Opening) where
  -- the table is open, as a whole: its own label is, or without labels it is public (02, Q-2); every other scheme leaves it open (02, Q-11: nest too)
  unfoldable pub table_open : Scheme ℕ → Bool
  table_open (unlabelled b) = b
  table_open (by_table l) = opening.label (some l)
  table_open (by_column ls) = true
  table_open by_row = true
  table_open by_cell = true
  table_open (nested w s) = true

  -- column c is open, as a whole: its own label is
  unfoldable pub column_open : Scheme ℕ → ℕ → Bool
  column_open (unlabelled b) c = true
  column_open (by_table l) c = true
  column_open (by_column ls) c = opening.label (get_elem? ls c)
  column_open by_row c = true
  column_open by_cell c = true
  column_open (nested w s) c = true

  -- cell c of a row with these labels is open: the label is the table's, the column's, the row's or its own, by scheme; without
  -- labels the table is public (02, Q-2); where nested, the table's strong and weak labels, the row's and its own say it together (02, Q-11)
  unfoldable pub cell_open : Scheme ℕ → List ℕ → ℕ → Bool
  cell_open (unlabelled b) labels c = b
  cell_open (by_table l) labels c = opening.label (some l)
  cell_open (by_column ls) labels c = opening.label (get_elem? ls c)
  cell_open by_row labels c = opening.label (get_elem? labels 0)
  cell_open by_cell labels c = opening.label (get_elem? labels c)
  cell_open (nested w s) labels c = opening.nest s w (get_elem? labels 0) (get_elem? labels (suc c))

  -- a row with these labels is withheld where the columns in `named` are named: by row its label is closed, by cell a named cell is; where
  -- nested only for a named cell that is closed: the row's own label withholds nothing by itself (02, Q-11)
  unfoldable pub row_withheld : Scheme ℕ → List ℕ → List ℕ → Bool
  row_withheld (unlabelled b) named labels = false
  row_withheld (by_table l) named labels = false
  row_withheld (by_column ls) named labels = false
  row_withheld by_row named labels = not (opening.label (get_elem? labels 0))
  row_withheld by_cell named labels = any_of (λ c. not (opening.label (get_elem? labels c))) named
  row_withheld (nested w s) named labels = any_of (λ c. not (opening.nest s w (get_elem? labels 0) (get_elem? labels (suc c)))) named
