-- The values of a row by the positions where they stand, for each shape of its items. Assumes nothing.
use Prim.Native.Nat.{◌+◌, suc, zero, ℕ}
use Rattle.document.specs.ValueFaults.{bracket_values, plain_values, shaped_values, values_behind_label}
use Rattle.form.proofs.WalkLaws.{item_onward, walk_more, walk_stop}
use Rattle.form.proofs.WalkSteps.{item_bracket, item_plain, items_more, items_stop, place_bracket, place_plain}
use Rattle.form.specs.Form.{Item, labelled, plain}
use Rattle.form.specs.Walks.{first_in, is_labelled_at, item_at, item_end_at, items_at, list_at, list_up_to}
use Rattle.lists.proofs.ListLaws.{map_inv}
use Rattle.lists.specs.Lists.{holds_of}
use Rattle.rows.specs.RowWords.{item_value_at, values_at}
use Rattle.text.specs.Names.{is_name}
use Rattle.text.specs.Words.{Word, written_of}
use lib.Dec.{eqb}
use lib.ListN.{get_or, length}
use mathlib.Core.Bool.{Bool, cond, false, not, true}
use mathlib.Core.List.{List, [], ◌∷◌}
use mathlib.Core.Option.{Option, map, none-ne-some, some-injective, none, some}
use mathlib.Core.Path.{◌∙◌, ◌≡◌, ap, refl, sym}
use native.Mathlib.Omega.{arith}

-- ---- one item

module _ (s : List ℕ) (at : ℕ) where
  -- without a label, the value stands where the item stands
  pub value_plain : is_labelled_at s at ≡ false → written_of s at ≡ item_value_at s at
  unfolding item_value_at
  value_plain e = ap (written_of s) (sym (place_plain s at e))

  value_bracket : is_labelled_at s at ≡ true → written_of s (first_in s at) ≡ item_value_at s at
  unfolding item_value_at
  value_bracket e = ap (written_of s) (sym (place_bracket s at e))

  -- an item of the shape that is wanted adds its value
  pub shaped_more : (b : Bool) (is : List Item) → is_labelled_at s at ≡ b → shaped_values b (item_at s at ∷ is) ≡ map (λ ws. item_value_at s at ∷ ws) (shaped_values b is)
  unfolding shaped_values bracket_values plain_values
  shaped_more true is e = ap (λ i. bracket_values (i ∷ is)) (item_bracket s at e) ∙ ap (λ w. map (λ ws. w ∷ ws) (bracket_values is)) (value_bracket e)
  shaped_more false is e = ap (λ i. plain_values (i ∷ is)) (item_plain s at e) ∙ ap (λ w. map (λ ws. w ∷ ws) (plain_values is)) (value_plain e)

  -- one of the other shape leaves none
  pub shaped_wrong : (b : Bool) (is : List Item) → is_labelled_at s at ≡ not b → shaped_values b (item_at s at ∷ is) ≡ none
  unfolding shaped_values bracket_values plain_values
  shaped_wrong true is e = ap (λ i. bracket_values (i ∷ is)) (item_plain s at e)
  shaped_wrong false is e = ap (λ i. plain_values (i ∷ is)) (item_bracket s at e)

-- the shape that is wanted or the other, as the code says it
pub fits_itself : (b : Bool) → cond b b (not b) ≡ true
fits_itself true = refl
fits_itself false = refl

pub fits_other : (b : Bool) → cond (not b) b (not b) ≡ false
fits_other true = refl
fits_other false = refl

pub shaped_nil : (b : Bool) → shaped_values b [] ≡ some []
unfolding shaped_values bracket_values plain_values
shaped_nil true = refl
shaped_nil false = refl

-- ---- how many values there are

-- n values before, and so many more
abbrev pub count_fits : ℕ → ℕ → Option (List Word) → Bool
count_fits n width o = holds_of (λ ws. eqb (n + length ws) width) o

-- there are values, and as many as this
abbrev pub width_fits : ℕ → Option (List Word) → Bool
width_fits width o = holds_of (λ ws. eqb (length ws) width) o

pub count_start : (width : ℕ) (o : Option (List Word)) → holds_of (λ ws. eqb (length ws) width) o ≡ count_fits 0 width o
unfolding holds_of
count_start width none = refl
count_start width (some ws) = ap (λ k. eqb k width) (omega arith)

count_more : (n width : ℕ) (w : Word) (o : Option (List Word)) → count_fits n width (map (λ ws. w ∷ ws) o) ≡ count_fits (n + 1) width o
unfolding holds_of
count_more n width w none = refl
count_more n width w (some ws) = ap (λ k. eqb k width) (omega arith)

module _ (s : List ℕ) (i n width : ℕ) (b : Bool) where
  pub fits_more : get_or s i 0 ≡ 32 → is_labelled_at s (i + 1) ≡ b → count_fits n width (shaped_values b (items_at s i)) ≡ count_fits (n + 1) width (shaped_values b (items_at s (item_end_at s (i + 1))))
  fits_more h e =
      ap (λ is. count_fits n width (shaped_values b is)) (items_more s i h)
      ∙ ap (count_fits n width) (shaped_more s (i + 1) b (items_at s (item_end_at s (i + 1))) e)
      ∙ count_more n width (item_value_at s (i + 1)) (shaped_values b (items_at s (item_end_at s (i + 1))))

  pub fits_wrong : get_or s i 0 ≡ 32 → is_labelled_at s (i + 1) ≡ not b → count_fits n width (shaped_values b (items_at s i)) ≡ false
  unfolding holds_of
  fits_wrong h e =
      ap (λ is. count_fits n width (shaped_values b is)) (items_more s i h)
      ∙ ap (count_fits n width) (shaped_wrong s (i + 1) b (items_at s (item_end_at s (i + 1))) e)

  pub fits_stop : (get_or s i 0 ≡ 32 → ⊥) → count_fits n width (shaped_values b (items_at s i)) ≡ eqb n width
  unfolding holds_of
  fits_stop h =
      ap (λ is. count_fits n width (shaped_values b is)) (items_stop s i h)
      ∙ ap (count_fits n width) (shaped_nil b)
      ∙ ap (λ k. eqb k width) (omega arith)

-- ---- the values by position

module _ (s : List ℕ) (at : ℕ) where
  pub values_more : get_or s at 0 ≡ 32 → values_at s at ≡ item_value_at s (at + 1) ∷ values_at s (item_end_at s (at + 1))
  unfolding values_at
  values_more h = walk_more item_value_at item_end_at s (item_onward s) at h

  pub values_stop : (get_or s at 0 ≡ 32 → ⊥) → values_at s at ≡ []
  unfolding values_at
  values_stop h = walk_stop item_value_at item_end_at s (item_onward s) at h

-- items that are all of the shape have these values
shaped_step : (b : Bool) (s : List ℕ) (p : ℕ) (is : List Item) (vs ws : List Word) → is_labelled_at s p ≡ b → shaped_values b (item_at s p ∷ is) ≡ some ws
    → ((us : List Word) → shaped_values b is ≡ some us → vs ≡ us) → item_value_at s p ∷ vs ≡ ws
shaped_step b s p is vs ws e h rest =
    let m = map_inv (λ us. item_value_at s p ∷ us) (shaped_values b is) ws (sym (shaped_more s p b is e) ∙ h) in
    ap (λ us. item_value_at s p ∷ us) (rest m.0 m.1) ∙ sym m.2

shaped_up_to : (b : Bool) (s : List ℕ) (n at : ℕ) (ws : List Word) → shaped_values b (list_up_to item_at item_end_at n s at) ≡ some ws → list_up_to item_value_at item_end_at n s at ≡ ws
unfolding list_up_to
shaped_up_to b s zero at ws h = some-injective _ _ (sym (shaped_nil b) ∙ h)
shaped_up_to b s (suc n) at ws h = go (eqb (get_or s at 0) 32) (is_labelled_at s (at + 1)) refl b h (shaped_up_to b s n (item_end_at s (at + 1)))
  where
    go : (t o : Bool) → is_labelled_at s (at + 1) ≡ o → (b : Bool) → shaped_values b (cond t (item_at s (at + 1) ∷ list_up_to item_at item_end_at n s (item_end_at s (at + 1))) []) ≡ some ws
        → ((vs : List Word) → shaped_values b (list_up_to item_at item_end_at n s (item_end_at s (at + 1))) ≡ some vs → list_up_to item_value_at item_end_at n s (item_end_at s (at + 1)) ≡ vs)
        → cond t (item_value_at s (at + 1) ∷ list_up_to item_value_at item_end_at n s (item_end_at s (at + 1))) [] ≡ ws
    go false o e b h rest = some-injective _ _ (sym (shaped_nil b) ∙ h)
    go true true e true h rest = shaped_step true s (at + 1) _ _ ws e h rest
    go true false e false h rest = shaped_step false s (at + 1) _ _ ws e h rest
    go true true e false h rest = absurd (none-ne-some _ (sym (shaped_wrong s (at + 1) false _ e) ∙ h))
    go true false e true h rest = absurd (none-ne-some _ (sym (shaped_wrong s (at + 1) true _ e) ∙ h))

pub shaped_at : (b : Bool) (s : List ℕ) (at : ℕ) (ws : List Word) → shaped_values b (items_at s at) ≡ some ws → values_at s at ≡ ws
unfolding items_at values_at list_at
shaped_at b s at ws h = shaped_up_to b s (length s) at ws h

-- ---- a row whose first item is its label

-- what stands behind a first item has these values
behind_item : (values : List Item → Option (List Word)) (i : Item) (is : List Item) (ws : List Word) → values_behind_label values (i ∷ is) ≡ some ws → values is ≡ some ws
unfolding values_behind_label
behind_item values (plain w) is ws h = go (is_name w.bytes) h
  where
    go : (t : Bool) → cond t (values is) none ≡ some ws → values is ≡ some ws
    go true h = h
    go false h = absurd (none-ne-some _ h)
behind_item values (labelled v l) is ws h = absurd (none-ne-some _ h)

module _ (s : List ℕ) (at : ℕ) where
  pub behind_values : get_or s at 0 ≡ 32 → (b : Bool) (ws : List Word) → values_behind_label (shaped_values b) (items_at s at) ≡ some ws → values_at s (item_end_at s (at + 1)) ≡ ws
  behind_values e b ws h = shaped_at b s (item_end_at s (at + 1)) ws (behind_item (shaped_values b) (item_at s (at + 1)) _ ws (ap (values_behind_label (shaped_values b)) (sym (items_more s at e)) ∙ h))
