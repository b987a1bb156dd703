-- Contract: the words of a row's items by the positions where they stand.
use Rattle.std.specs.Prelude.{ℕ, List}
use Rattle.form.specs.Walks.{cell_label_in, item_end_at, list_at, value_place}
use Rattle.text.specs.Words.{Word, word_of, written_of}

-- the value of the item at a position: it stands there, or behind the bracket of `(v L)`
unfoldable pub item_value_at : List ℕ → ℕ → Word
item_value_at s at = written_of s (value_place s at)

-- the values of the items from a position on
unfoldable pub values_at : List ℕ → ℕ → List Word
values_at s at = list_at item_value_at item_end_at s at

-- the label of the bracket at a position
unfoldable pub label_at : List ℕ → ℕ → Word
label_at s at = word_of s (cell_label_in s at)
