-- Walking through a list again, item by item: what a loop of code over each of the lists of Walks cites. Where a space stands at
-- the loop's place, one item more and the list from its end on; elsewhere none. Assumes nothing.
use Prim.Native.Nat.{◌+◌, ◌<◌, ◌≤◌, ℕ}
use lib.ListN.{get_or, length}
use mathlib.Core.Bool.{false, true}
use mathlib.Core.List.{List, [], ◌∷◌}
use mathlib.Core.Path.{◌≡◌}
use native.Mathlib.Omega.{arith}
use Rattle.form.proofs.WalkLaws.{cell_onward, item_onward, item_within, pair_onward, pair_within, triple_onward, triple_within, walk_more, walk_stop}
use Rattle.form.specs.Form.{labelled, plain}
use Rattle.form.specs.Walks.{cell_at, cell_end_at, cell_label_in, cells_at, column_at, column_forms_at, column_label_at, column_labels_at, first_in, given_at, givens_at, is_labelled_at, item_at, item_end_at, items_at, labelled_columns_at, names_at, pair_end_at, plain_at, triple_end_at, value_place}
use Rattle.text.proofs.Closings.{value_onward}
use Rattle.text.proofs.WalkingLaws.{word_forward, word_within}
use Rattle.text.specs.Walking.{word_end_at, written_end_at}
use Rattle.text.specs.Words.{word_of, written_of}

-- ---- a turn goes on, and stays within the text: for each kind of end

module _ (s : List ℕ) (at : ℕ) where
  pub word_after : at < word_end_at s (at + 1)
  word_after = omega (arith, word_forward s (at + 1))

  pub word_inside : at < length s → word_end_at s (at + 1) ≤ length s
  word_inside h = word_within s (at + 1) (omega arith)

  pub pair_after : at < pair_end_at s (at + 1)
  pair_after = omega (arith, pair_onward s (at + 1))

  pub pair_inside : at < length s → pair_end_at s (at + 1) ≤ length s
  pair_inside h = pair_within s (at + 1) (omega arith)

  pub triple_after : at < triple_end_at s (at + 1)
  triple_after = omega (arith, triple_onward s (at + 1))

  pub triple_inside : at < length s → triple_end_at s (at + 1) ≤ length s
  triple_inside h = triple_within s (at + 1) (omega arith)

  pub value_after : at < written_end_at s (at + 1)
  value_after = omega (arith, value_onward s (at + 1))

  pub cell_after : at < cell_end_at s (at + 1)
  cell_after = omega (arith, cell_onward s (at + 1))

  pub item_after : at < item_end_at s (at + 1)
  item_after = omega (arith, item_onward s (at + 1))

  pub item_inside : at < length s → item_end_at s (at + 1) ≤ length s
  item_inside h = item_within s (at + 1) (omega arith)

-- ---- an item of a row

module _ (s : List ℕ) (at : ℕ) where
  pub item_bracket : is_labelled_at s at ≡ true → item_at s at ≡ labelled (written_of s (first_in s at)) (word_of s (cell_label_in s at))
  unfolding item_at
  item_bracket e = rw e

  pub item_plain : is_labelled_at s at ≡ false → item_at s at ≡ plain (written_of s at)
  unfolding item_at
  item_plain e = rw e

  pub place_bracket : is_labelled_at s at ≡ true → value_place s at ≡ first_in s at
  unfolding value_place
  place_bracket e = rw e

  pub place_plain : is_labelled_at s at ≡ false → value_place s at ≡ at
  unfolding value_place
  place_plain e = rw e

  pub item_bracket_end : is_labelled_at s at ≡ true → item_end_at s at ≡ cell_end_at s at
  unfolding item_end_at
  item_bracket_end e = rw e

  pub item_plain_end : is_labelled_at s at ≡ false → item_end_at s at ≡ written_end_at s at
  unfolding item_end_at
  item_plain_end e = rw e

-- ---- the lists

module _ (s : List ℕ) (at : ℕ) where
  pub names_more : get_or s at 0 ≡ 32 → names_at s at ≡ word_of s (at + 1) ∷ names_at s (word_end_at s (at + 1))
  unfolding names_at
  names_more h = walk_more word_of word_end_at s (word_forward s) at h

  pub names_stop : (get_or s at 0 ≡ 32 → ⊥) → names_at s at ≡ []
  unfolding names_at
  names_stop h = walk_stop word_of word_end_at s (word_forward s) at h

  pub givens_more : get_or s at 0 ≡ 32 → givens_at s at ≡ given_at s (at + 1) ∷ givens_at s (pair_end_at s (at + 1))
  unfolding givens_at
  givens_more h = walk_more given_at pair_end_at s (pair_onward s) at h

  pub givens_stop : (get_or s at 0 ≡ 32 → ⊥) → givens_at s at ≡ []
  unfolding givens_at
  givens_stop h = walk_stop given_at pair_end_at s (pair_onward s) at h

  pub columns_more : get_or s at 0 ≡ 32 → column_forms_at s at ≡ column_at s (at + 1) ∷ column_forms_at s (pair_end_at s (at + 1))
  unfolding column_forms_at
  columns_more h = walk_more column_at pair_end_at s (pair_onward s) at h

  pub columns_stop : (get_or s at 0 ≡ 32 → ⊥) → column_forms_at s at ≡ []
  unfolding column_forms_at
  columns_stop h = walk_stop column_at pair_end_at s (pair_onward s) at h

  pub labelled_columns_more : get_or s at 0 ≡ 32 → labelled_columns_at s at ≡ column_at s (at + 1) ∷ labelled_columns_at s (triple_end_at s (at + 1))
  unfolding labelled_columns_at
  labelled_columns_more h = walk_more column_at triple_end_at s (triple_onward s) at h

  pub labelled_columns_stop : (get_or s at 0 ≡ 32 → ⊥) → labelled_columns_at s at ≡ []
  unfolding labelled_columns_at
  labelled_columns_stop h = walk_stop column_at triple_end_at s (triple_onward s) at h

  pub column_labels_more : get_or s at 0 ≡ 32 → column_labels_at s at ≡ column_label_at s (at + 1) ∷ column_labels_at s (triple_end_at s (at + 1))
  unfolding column_labels_at
  column_labels_more h = walk_more column_label_at triple_end_at s (triple_onward s) at h

  pub column_labels_stop : (get_or s at 0 ≡ 32 → ⊥) → column_labels_at s at ≡ []
  unfolding column_labels_at
  column_labels_stop h = walk_stop column_label_at triple_end_at s (triple_onward s) at h

  pub items_more : get_or s at 0 ≡ 32 → items_at s at ≡ item_at s (at + 1) ∷ items_at s (item_end_at s (at + 1))
  unfolding items_at
  items_more h = walk_more item_at item_end_at s (item_onward s) at h

  pub items_stop : (get_or s at 0 ≡ 32 → ⊥) → items_at s at ≡ []
  unfolding items_at
  items_stop h = walk_stop item_at item_end_at s (item_onward s) at h

  pub plain_more : get_or s at 0 ≡ 32 → plain_at s at ≡ written_of s (at + 1) ∷ plain_at s (written_end_at s (at + 1))
  unfolding plain_at
  plain_more h = walk_more written_of written_end_at s (value_onward s) at h

  pub plain_stop : (get_or s at 0 ≡ 32 → ⊥) → plain_at s at ≡ []
  unfolding plain_at
  plain_stop h = walk_stop written_of written_end_at s (value_onward s) at h

  pub cells_more : get_or s at 0 ≡ 32 → cells_at s at ≡ cell_at s (at + 1) ∷ cells_at s (cell_end_at s (at + 1))
  unfolding cells_at
  cells_more h = walk_more cell_at cell_end_at s (cell_onward s) at h

  pub cells_stop : (get_or s at 0 ≡ 32 → ⊥) → cells_at s at ≡ []
  unfolding cells_at
  cells_stop h = walk_stop cell_at cell_end_at s (cell_onward s) at h
