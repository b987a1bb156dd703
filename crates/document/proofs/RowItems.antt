-- The items of a row by the positions where they stand, and the label in front of them. Assumes nothing.
use Prim.Native.Nat.{◌+◌, ℕ}
use lib.ListN.{get_or}
use mathlib.Core.Bool.{Bool, cond, false, true}
use mathlib.Core.List.{List, [], ◌++◌, ◌∷◌}
use mathlib.Core.Option.{Option, none}
use mathlib.Core.Path.{◌∙◌, ◌≡◌, ap, refl}
use Rattle.document.specs.NameFaults.{bracket_labels, leading_name, row_labels}
use Rattle.document.specs.ValueFaults.{row_values, shaped_values, values_behind_label}
use Rattle.form.proofs.WalkLaws.{unopened_unlabelled}
use Rattle.form.proofs.WalkSteps.{item_bracket, item_plain, item_plain_end, items_more, items_stop}
use Rattle.form.specs.Form.{Item, Scheme, has_brackets, leads_label, plain}
use Rattle.form.specs.Walks.{is_labelled_at, item_at, item_end_at, items_at}
use Rattle.lists.proofs.Tests.{neither_left}
use Rattle.text.proofs.CellValues.{bracket_no_value}
use Rattle.text.proofs.Closings.{written_end, written_word}
use Rattle.text.specs.Names.{is_name}
use Rattle.text.specs.Numbers.{is_number, is_value}
use Rattle.text.specs.Walking.{word_end_at}
use Rattle.text.specs.Words.{Word, word_at, word_of, written_at, written_of}

-- ---- by the two marks of a scheme: whether its rows lead with a label, and whether they have brackets

module _ (s : Scheme ℕ) {a b : Bool} (p : leads_label s ≡ a) (q : has_brackets s ≡ b) (is : List Item) where
  pub values_by : row_values s is ≡ cond a (values_behind_label (shaped_values b) is) (shaped_values b is)
  unfolding row_values
  values_by = λ i. cond (p i) (values_behind_label (shaped_values (q i)) is) (shaped_values (q i) is)

  pub labels_by : row_labels s is ≡ cond a (leading_name is) [] ++ cond b (bracket_labels is) []
  unfolding row_labels
  labels_by = λ i. cond (p i) (leading_name is) [] ++ cond (q i) (bracket_labels is) []

-- ---- a row whose first item is its label

module _ (s : List ℕ) (at : ℕ) where
  pub no_values_behind : (values : List Item → Option (List Word)) → (get_or s at 0 ≡ 32 → ⊥) → values_behind_label values (items_at s at) ≡ none
  unfolding values_behind_label
  no_values_behind values e = ap (values_behind_label values) (items_stop s at e)

  pub no_leading : (get_or s at 0 ≡ 32 → ⊥) → leading_name (items_at s at) ≡ []
  unfolding leading_name
  no_leading e = ap leading_name (items_stop s at e)

  -- where a bracket opens, the first item is `(v L)`, a range or a date, and so no name
  first_unnamed : get_or s (at + 1) 0 ≡ 40 → is_name (written_at s (at + 1)) ≡ false
  unfolding is_value
  first_unnamed o = neither_left (is_name (written_at s (at + 1))) (is_number (written_at s (at + 1))) (bracket_no_value s (at + 1) o)

  pub bracket_behind : (values : List Item → Option (List Word)) → get_or s at 0 ≡ 32 → get_or s (at + 1) 0 ≡ 40 → values_behind_label values (items_at s at) ≡ none
  unfolding values_behind_label
  bracket_behind values e o = ap (values_behind_label values) (items_more s at e) ∙ go (is_labelled_at s (at + 1)) refl
    where
      go : (t : Bool) → is_labelled_at s (at + 1) ≡ t → values_behind_label values (item_at s (at + 1) ∷ items_at s (item_end_at s (at + 1))) ≡ none
      go true k = ap (λ i. values_behind_label values (i ∷ items_at s (item_end_at s (at + 1)))) (item_bracket s (at + 1) k)
      go false k = ap (λ i. values_behind_label values (i ∷ items_at s (item_end_at s (at + 1)))) (item_plain s (at + 1) k) ∙ ap (λ t. cond t (values (items_at s (item_end_at s (at + 1)))) none) (first_unnamed o)

  pub bracket_leading : get_or s at 0 ≡ 32 → get_or s (at + 1) 0 ≡ 40 → leading_name (items_at s at) ≡ []
  unfolding leading_name
  bracket_leading e o = ap leading_name (items_more s at e) ∙ go (is_labelled_at s (at + 1)) refl
    where
      go : (t : Bool) → is_labelled_at s (at + 1) ≡ t → leading_name (item_at s (at + 1) ∷ items_at s (item_end_at s (at + 1))) ≡ []
      go true k = ap (λ i. leading_name (i ∷ items_at s (item_end_at s (at + 1)))) (item_bracket s (at + 1) k)
      go false k = ap (λ i. leading_name (i ∷ items_at s (item_end_at s (at + 1)))) (item_plain s (at + 1) k) ∙ ap (λ t. cond t (written_of s (at + 1) ∷ []) []) (first_unnamed o)

  module _ (e : get_or s at 0 ≡ 32) (o : get_or s (at + 1) 0 ≡ 40 → ⊥) where
    plain_first : items_at s at ≡ plain (word_of s (at + 1)) ∷ items_at s (word_end_at s (at + 1))
    plain_first =
        items_more s at e
        ∙ (λ j. item_plain s (at + 1) (unopened_unlabelled s (at + 1) o) j ∷ items_at s (item_plain_end s (at + 1) (unopened_unlabelled s (at + 1) o) j))
        ∙ (λ j. plain (record { at = at + 1; bytes = written_word s (at + 1) o j }) ∷ items_at s (written_end s (at + 1) o j))

    module _ (b : Bool) (n : is_name (word_at s (at + 1)) ≡ b) where
      pub led_values : (values : List Item → Option (List Word)) → values_behind_label values (items_at s at) ≡ cond b (values (items_at s (word_end_at s (at + 1)))) none
      unfolding values_behind_label
      led_values values = ap (values_behind_label values) plain_first ∙ ap (λ t. cond t (values (items_at s (word_end_at s (at + 1)))) none) n

      pub led_name : leading_name (items_at s at) ≡ cond b (word_of s (at + 1) ∷ []) []
      unfolding leading_name
      led_name = ap leading_name plain_first ∙ ap (λ t. cond t (word_of s (at + 1) ∷ []) []) n
