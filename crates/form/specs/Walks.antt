-- Contract: lists of a line by the positions where they stand: what code walks through after the line was read.
use Rattle.std.specs.Prelude.{◌+◌, suc, zero, ℕ, eqb, get_or, length, Bool, ◌&&◌, cond, not, List, [], ◌∷◌}
use Rattle.calendar.specs.CellValues.{cell_value}
use Rattle.condition.specs.Kinds.{Kind, dates, names, numbers}
use Rattle.form.specs.Form.{ColumnForm, GivenForm, Item, labelled, plain}
use Rattle.lists.specs.Lists.{there}
use Rattle.text.specs.Bytes.{ascii}
use Rattle.text.specs.Names.{same_name}
use Rattle.text.specs.Reader.{from}
use Rattle.text.specs.Walking.{next_word, past, word_end_at, written_end_at}
use Rattle.text.specs.Words.{Word, word_at, word_of, written_of}

module _ {A : Type 0} (item_at : List ℕ → ℕ → A) (end_at : List ℕ → ℕ → ℕ) where
  -- at most n items, each behind a space, by where each stands and ends
  unfoldable pub list_up_to : ℕ → List ℕ → ℕ → List A
  list_up_to zero s at = []
  list_up_to (suc n) s at = cond (eqb (get_or s at 0) 32) (item_at s (at + 1) ∷ list_up_to n s (end_at s (at + 1))) []

  -- the items that stand from a position on, each behind a space
  unfoldable pub list_at : List ℕ → ℕ → List A
  list_at s at = list_up_to (length s) s at

-- the last of some positions, or this one where there are none
unfoldable pub last_or : ℕ → List ℕ → ℕ
last_or at [] = at
last_or at (e ∷ es) = last_or e es

-- where the items from a position on end: where the last of them ends
unfoldable pub list_end_at : (List ℕ → ℕ → ℕ) → List ℕ → ℕ → ℕ
list_end_at to s at = last_or at (list_at to to s at)

-- the names from a position on
unfoldable pub names_at : List ℕ → ℕ → List Word
names_at s at = list_at word_of word_end_at s at

-- where the first word stands in a bracket that opens at a position
unfoldable pub first_in : List ℕ → ℕ → ℕ
first_in s at = past 40 s at

-- from where on the purposes stand that a label allows, its name standing at a position: behind the keyword of their bracket
unfoldable pub allow_place : List ℕ → ℕ → ℕ
allow_place s n = word_end_at s (first_in s (next_word s n))

-- from where on those stand that it denies: behind the keyword of the next bracket (02, Q-7)
unfoldable pub deny_place : List ℕ → ℕ → ℕ
deny_place s n = word_end_at s (first_in s (past 32 s (past 41 s (list_end_at word_end_at s (allow_place s n)))))

-- where its second word stands
unfoldable pub second_in : List ℕ → ℕ → ℕ
second_in s at = next_word s (first_in s at)

-- where its third word stands
unfoldable pub third_in : List ℕ → ℕ → ℕ
third_in s at = next_word s (second_in s at)

-- where a bracket of two words ends
unfoldable pub pair_end_at : List ℕ → ℕ → ℕ
pair_end_at s at = past 41 s (word_end_at s (second_in s at))

-- where a bracket of three words ends
unfoldable pub triple_end_at : List ℕ → ℕ → ℕ
triple_end_at s at = past 41 s (word_end_at s (third_in s at))

-- the `(A v)` at a position
unfoldable pub given_at : List ℕ → ℕ → GivenForm
given_at s at = record { attribute = word_of s (first_in s at); value = word_of s (second_in s at) }

-- the values of a user from a position on
unfoldable pub givens_at : List ℕ → ℕ → List GivenForm
givens_at s at = list_at given_at pair_end_at s at

-- the type of an attribute that the word at a position names: `num`, or else `name`
unfoldable pub kind_at : List ℕ → ℕ → Kind
kind_at s at = cond (same_name (word_at s at) (ascii "num")) numbers names

-- the type of a column that it names: `date`, or else as of an attribute
unfoldable pub column_kind_at : List ℕ → ℕ → Kind
column_kind_at s at = cond (same_name (word_at s at) (ascii "date")) dates (kind_at s at)

-- the column of the `(COL num)` or `(COL num L)` at a position
unfoldable pub column_at : List ℕ → ℕ → ColumnForm
column_at s at = record { name = word_of s (first_in s at); kind = column_kind_at s (second_in s at) }

-- the columns of a table from a position on
unfoldable pub column_forms_at : List ℕ → ℕ → List ColumnForm
column_forms_at s at = list_at column_at pair_end_at s at

-- the columns of a table with a label at each, from a position on
unfoldable pub labelled_columns_at : List ℕ → ℕ → List ColumnForm
labelled_columns_at s at = list_at column_at triple_end_at s at

-- the label of the `(COL num L)` at a position
unfoldable pub column_label_at : List ℕ → ℕ → Word
column_label_at s at = word_of s (third_in s at)

-- the labels of such columns from a position on
unfoldable pub column_labels_at : List ℕ → ℕ → List Word
column_labels_at s at = list_at column_label_at triple_end_at s at

-- where the label stands in the `(v L)` at a position: behind the value
unfoldable pub cell_label_in : List ℕ → ℕ → ℕ
cell_label_in s at = past 32 s (written_end_at s (first_in s at))

-- where it ends
unfoldable pub cell_end_at : List ℕ → ℕ → ℕ
cell_end_at s at = past 41 s (word_end_at s (cell_label_in s at))

-- the value and the label of the `(v L)` at a position
unfoldable pub cell_at : List ℕ → ℕ → Word × Word
cell_at s at = (written_of s (first_in s at), word_of s (cell_label_in s at))

-- the items of a row without labels from a position on: its values
unfoldable pub plain_at : List ℕ → ℕ → List Word
plain_at s at = list_at written_of written_end_at s at

-- the items of a row with a label at each from a position on
unfoldable pub cells_at : List ℕ → ℕ → List (Word × Word)
cells_at s at = list_at cell_at cell_end_at s at

-- the item of a row at a position is `(v L)`: a bracket opens that is no value (02, Q-12, Q-14)
unfoldable pub is_labelled_at : List ℕ → ℕ → Bool
is_labelled_at s at = eqb (get_or s at 0) 40 && not (there (cell_value (from s at)))

-- where its value stands: behind the bracket of `(v L)`, and else at the item
unfoldable pub value_place : List ℕ → ℕ → ℕ
value_place s at = cond (is_labelled_at s at) (first_in s at) at

-- the item: `(v L)`, or else `v`
unfoldable pub item_at : List ℕ → ℕ → Item
item_at s at = cond (is_labelled_at s at) (labelled (written_of s (first_in s at)) (word_of s (cell_label_in s at))) (plain (written_of s at))

-- where it ends
unfoldable pub item_end_at : List ℕ → ℕ → ℕ
item_end_at s at = cond (is_labelled_at s at) (cell_end_at s at) (written_end_at s at)

-- the items of a row from a position on
unfoldable pub items_at : List ℕ → ℕ → List Item
items_at s at = list_at item_at item_end_at s at
