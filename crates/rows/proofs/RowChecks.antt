-- The checks of a row by position: labels that are not known, and values of the wrong type, item by item. Assumes nothing.
use Prim.Native.Nat.{◌+◌, ◌<◌, ◌≤◌, suc, zero, ℕ}
use lib.ListN.{drop, drop_of_length-le, get_or, get_elem?, length}
use mathlib.Core.Bool.{Bool, false, true}
use mathlib.Core.List.{List, [], ◌∷◌, map}
use mathlib.Core.Option.{Option, none-ne-some, some-injective, none, some}
use mathlib.Core.Path.{◌∙◌, ◌≡◌, ap, refl, subst, sym}
use native.Mathlib.Numerals.{add-one}
use Rattle.calendar.specs.DateText.{date_of}
use Rattle.condition.specs.Kinds.{Kind}
use Rattle.document.specs.AmountFaults.{date_exists, in_order}
use Rattle.document.specs.Lookup.{columns_at}
use Rattle.document.specs.NameFaults.{bracket_labels}
use Rattle.document.specs.Policy.{Column, Policy}
use Rattle.document.specs.TypeFaults.{cell_has_kind, mistyped_value}
use Rattle.rows.proofs.RowItems.{values_more, values_stop}
use Rattle.rows.specs.RowWords.{item_value_at, label_at, values_at}
use Rattle.form.proofs.WalkSteps.{item_bracket, item_plain, items_more, items_stop}
use Rattle.form.specs.Form.{Item, labelled, plain}
use Rattle.form.specs.Walks.{cell_label_in, is_labelled_at, item_at, item_end_at, items_at, value_place}
use Rattle.relations.proofs.TableLaws.{column_at_lem, column_inside, table_inside, width_read}
use Rattle.relations.specs.Tables.{Cut, Tables, column_count_in, column_in, column_kind_in}
use Rattle.text.proofs.OffendingLaws.{leftmost_fail, leftmost_on, leftmost_only, missing_here, missing_next, missing_nil}
use Rattle.text.specs.Amounts.{range_of}
use Rattle.text.specs.Numbers.{Value}
use Rattle.text.specs.Offending.{leftmost, missing, unless}
use Rattle.text.specs.Words.{Word, word_of, written_at, written_of}

-- ---- labels that are not known

module _ (f : Word → Bool) where
  pub one_missing : (w : Word) (b : Bool) → f w ≡ b → missing f (w ∷ []) ≡ unless b w
  unfolding missing
  one_missing w b e = leftmost_only (unless (f w) w) ∙ ap (λ t. unless t w) e

  first_missing_lem : (w : Word) (ws : List Word) → missing f (w ∷ ws) ≡ leftmost (missing f (w ∷ []) ∷ missing f ws ∷ [])
  unfolding missing leftmost
  first_missing_lem w ws = go (unless (f w) w)
    where
      go : (o : Option Word) → leftmost (o ∷ map (λ v. unless (f v) v) ws) ≡ leftmost (leftmost (o ∷ []) ∷ leftmost (map (λ v. unless (f v) v) ws) ∷ [])
      go none = sym (leftmost_only (leftmost (map (λ v. unless (f v) v) ws)))
      go (some v) = refl

  labels_first : (i : Item) (is : List Item) → missing f (bracket_labels (i ∷ is)) ≡ leftmost (missing f (bracket_labels (i ∷ [])) ∷ missing f (bracket_labels is) ∷ [])
  unfolding bracket_labels unless missing
  labels_first (plain w) is = sym (ap (λ o. leftmost (o ∷ missing f (bracket_labels is) ∷ [])) (missing_nil f) ∙ leftmost_on true w (missing f (bracket_labels is)) refl)
  labels_first (labelled v l) is = first_missing_lem l (bracket_labels is)

  module _ (s : List ℕ) (at : ℕ) where
    -- what is missing of one item's label
    pub plain_known : is_labelled_at s at ≡ false → missing f (bracket_labels (item_at s at ∷ [])) ≡ unless true (label_at s at)
    unfolding bracket_labels unless missing leftmost
    plain_known e = ap (λ i. missing f (bracket_labels (i ∷ []))) (item_plain s at e)

    pub bracket_known : is_labelled_at s at ≡ true → (b : Bool) → f (word_of s (cell_label_in s at)) ≡ b → missing f (bracket_labels (item_at s at ∷ [])) ≡ unless b (label_at s at)
    unfolding bracket_labels label_at
    bracket_known e b h = ap (λ i. missing f (bracket_labels (i ∷ []))) (item_bracket s at e) ∙ one_missing (word_of s (cell_label_in s at)) b h

  module _ (s : List ℕ) (i : ℕ) (e : get_or s i 0 ≡ 32) (b : Bool) (h : missing f (bracket_labels (item_at s (i + 1) ∷ [])) ≡ unless b (label_at s (i + 1))) where
    labels_step : missing f (bracket_labels (items_at s i)) ≡ leftmost (unless b (label_at s (i + 1)) ∷ missing f (bracket_labels (items_at s (item_end_at s (i + 1)))) ∷ [])
    labels_step =
        ap (λ is. missing f (bracket_labels is)) (items_more s i e)
        ∙ labels_first (item_at s (i + 1)) (items_at s (item_end_at s (i + 1)))
        ∙ ap (λ o. leftmost (o ∷ missing f (bracket_labels (items_at s (item_end_at s (i + 1)))) ∷ [])) h

    pub labels_on : b ≡ true → missing f (bracket_labels (items_at s i)) ≡ missing f (bracket_labels (items_at s (item_end_at s (i + 1))))
    labels_on t = labels_step ∙ leftmost_on b (label_at s (i + 1)) (missing f (bracket_labels (items_at s (item_end_at s (i + 1))))) t

    pub labels_here : b ≡ false → missing f (bracket_labels (items_at s i)) ≡ some (label_at s (i + 1))
    labels_here t = labels_step ∙ leftmost_fail b (label_at s (i + 1)) _ t

  pub labels_done : (s : List ℕ) (i : ℕ) → (get_or s i 0 ≡ 32 → ⊥) → missing f (bracket_labels (items_at s i)) ≡ none
  unfolding bracket_labels
  labels_done s i h = ap (λ is. missing f (bracket_labels is)) (items_stop s i h) ∙ missing_nil f

-- ---- values of the wrong type

dropped : {A : Type 0} (xs : List A) (c : ℕ) (x : A) → get_elem? xs c ≡ some x → drop c xs ≡ x ∷ drop (suc c) xs
dropped [] c x e = absurd (none-ne-some x e)
dropped (y ∷ xs) zero x e = ap (λ z. z ∷ xs) (some-injective y x e)
dropped (y ∷ xs) (suc c) x e = dropped xs c x e

pub no_columns_left : (cs : List Column) (c : ℕ) (ws : List Word) → length cs ≤ c → mistyped_value (drop c cs) ws ≡ none
unfolding mistyped_value
no_columns_left cs c ws h = ap (λ xs. mistyped_value xs ws) (drop_of_length-le cs h)

no_values : (cs : List Column) → mistyped_value cs [] ≡ none
unfolding mistyped_value
no_values [] = refl
no_values (c ∷ cs) = refl

pub no_values_left : (cs : List Column) (s : List ℕ) (i : ℕ) → (get_or s i 0 ≡ 32 → ⊥) → mistyped_value cs (values_at s i) ≡ none
no_values_left cs s i h = ap (mistyped_value cs) (values_stop s i h) ∙ no_values cs

-- the value of an item stands at its place
value_is : (s : List ℕ) (i v : ℕ) → v ≡ value_place s (i + 1) → item_value_at s (i + 1) ≡ written_of s v
unfolding item_value_at
value_is s i v place = ap (written_of s) (sym place)

-- a value and its column, and those behind them
module _ (text ws : List ℕ) (k t : ℕ) (d : Policy) (h : Tables text ws k d.tables) (l : t < k) (n : ℕ) (width : Cut 16 t 8 (column_count_in ws t) n)
    (s : List ℕ) (c i : ℕ) (small : c < n) (e : get_or s i 0 ≡ 32) (type : Kind) (kind : t < 8 → c < 16 → type ≡ column_kind_in ws t c)
    (v : ℕ) (place : v ≡ value_place s (i + 1)) (b : Bool) (is : b ≡ cell_has_kind type (written_at s v)) where
  inside : c < length (columns_at d t)
  inside = subst (λ (m : ℕ). c < m) (width_read text ws k t d h l n width) small

  columns_left : drop c (columns_at d t) ≡ column_in text ws t c ∷ drop (c + 1) (columns_at d t)
  columns_left = rw (add-one c) (dropped (columns_at d t) c (column_in text ws t c) (column_at_lem text ws k t d h l c inside))

  kind_is : (column_in text ws t c).kind ≡ type
  unfolding column_in
  kind_is = sym (kind (table_inside text ws k t d h l) (column_inside text ws k t d h l c inside))

  types_step : mistyped_value (drop c (columns_at d t)) (values_at s i) ≡ leftmost (unless b (written_of s v) ∷ mistyped_value (drop (c + 1) (columns_at d t)) (values_at s (item_end_at s (i + 1))) ∷ [])
  unfolding mistyped_value
  types_step =
      (λ j. mistyped_value (columns_left j) (values_more s i e j))
      ∙ (λ j. leftmost (unless (cell_has_kind (kind_is j) (value_is s i v place j).bytes) (value_is s i v place j) ∷ mistyped_value (drop (c + 1) (columns_at d t)) (values_at s (item_end_at s (i + 1))) ∷ []))
      ∙ ap (λ x. leftmost (unless x (written_of s v) ∷ mistyped_value (drop (c + 1) (columns_at d t)) (values_at s (item_end_at s (i + 1))) ∷ [])) (sym is)

  pub types_on : b ≡ true → mistyped_value (drop c (columns_at d t)) (values_at s i) ≡ mistyped_value (drop (c + 1) (columns_at d t)) (values_at s (item_end_at s (i + 1)))
  types_on x = types_step ∙ leftmost_on b (written_of s v) (mistyped_value (drop (c + 1) (columns_at d t)) (values_at s (item_end_at s (i + 1)))) x

  pub types_here : b ≡ false → mistyped_value (drop c (columns_at d t)) (values_at s i) ≡ some (written_of s v)
  types_here x = types_step ∙ leftmost_fail b (written_of s v) _ x

-- ---- values that fail a test of their own: ranges that are not in order, dates that do not exist

-- the first value that fails
abbrev pub first_failing : (Value → Bool) → List Word → Option Word
first_failing f ws = missing (λ w. f w.bytes) ws

abbrev pub first_broken : List Word → Option Word
first_broken ws = first_failing (λ v. in_order (range_of v)) ws

abbrev pub first_unreal : List Word → Option Word
first_unreal ws = first_failing (λ v. date_exists (date_of v)) ws

module _ (f : Value → Bool) where
  module _ (s : List ℕ) (i : ℕ) (e : get_or s i 0 ≡ 32) (v : ℕ) (place : v ≡ value_place s (i + 1)) (b : Bool) (is : b ≡ f (written_at s v)) where
    test_step : first_failing f (values_at s i) ≡ first_failing f (written_of s v ∷ values_at s (item_end_at s (i + 1)))
    test_step = ap (first_failing f) (values_more s i e) ∙ ap (λ (w : Word). first_failing f (w ∷ values_at s (item_end_at s (i + 1)))) (value_is s i v place)

    pub test_on : b ≡ true → first_failing f (values_at s i) ≡ first_failing f (values_at s (item_end_at s (i + 1)))
    test_on x = test_step ∙ missing_next (λ w. f w.bytes) (written_of s v) (values_at s (item_end_at s (i + 1))) (sym is ∙ x)

    pub test_here : b ≡ false → first_failing f (values_at s i) ≡ some (written_of s v)
    test_here x = test_step ∙ missing_here (λ w. f w.bytes) (written_of s v) (values_at s (item_end_at s (i + 1))) (sym is ∙ x)

  pub test_done : (s : List ℕ) (i : ℕ) → (get_or s i 0 ≡ 32 → ⊥) → first_failing f (values_at s i) ≡ none
  test_done s i h = ap (first_failing f) (values_stop s i h) ∙ missing_nil (λ w. f w.bytes)
