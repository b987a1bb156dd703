-- The row that a row line means: places do not matter, and a line written out from its parts means the row of those parts.
-- Assumes nothing.
use Prim.Native.Nat.{suc, ℕ}
use lib.ListN.{drop, length, take}
use mathlib.Core.Bool.{Bool, cond, false, true}
use mathlib.Core.List.{List, [], ◌++◌, ◌∷◌, map, zip_with}
use mathlib.Core.Option
use mathlib.Core.Option.{Option, get_or, none-ne-some, some-injective, none, some}
use mathlib.Core.Path.{◌∙◌, ◌≡◌, ap, refl, subst₂, sym}
use native.Mathlib.Omega.{arith}
use Rattle.document.specs.Lookup.{label_of, scheme_of, table_of}
use Rattle.document.specs.Meaning.{define, row_meant, rows_given}
use Rattle.document.specs.NameFaults.{bracket_labels, leading_name, row_labels, unknown}
use Rattle.document.specs.Policy.{Policy}
use Rattle.document.specs.ValueFaults.{bracket_values, plain_values, row_values, shaped_values, values_behind_label}
use Rattle.form.proofs.RowBack.{items_of, placeless_item, row_parts, value_items}
use Rattle.form.specs.Form.{Form, Item, Scheme, attr, cond_role, grant, has_brackets, label, labelled, leads_label, note, plain, purpose, role, row, table, user}
use Rattle.form.specs.RowText.{label_count}
use Rattle.lists.proofs.ListLaws.{all_map, map_append, map_map}
use Rattle.text.proofs.OffendingLaws.{leftmost_head, leftmost_tail, missing_none, unless_none}
use Rattle.text.proofs.ReadBack.{placeless}
use Rattle.lists.proofs.Tests.{and_left}
use Rattle.lists.specs.Lists.{all_of, or_zero, there}
use Rattle.text.specs.Names.{Name, is_name}
use Rattle.text.specs.Numbers.{Value}
use Rattle.text.specs.Words.{Word, is_called, plain_word}

-- ---- what a row form means does not depend on places

plain_values_placeless : (is : List Item) → plain_values (map placeless_item is) ≡ Option.map (map placeless) (plain_values is)
unfolding plain_values placeless_item
plain_values_placeless [] = refl
plain_values_placeless (plain w ∷ is) = rw (plain_values_placeless is) (go (plain_values is))
  where
    go : (o : Option (List Word)) → Option.map (λ ws. placeless w ∷ ws) (Option.map (map placeless) o) ≡ Option.map (map placeless) (Option.map (λ ws. w ∷ ws) o)
    go none = refl
    go (some ws) = refl
plain_values_placeless (labelled v l ∷ is) = refl

bracket_values_placeless : (is : List Item) → bracket_values (map placeless_item is) ≡ Option.map (map placeless) (bracket_values is)
unfolding bracket_values placeless_item
bracket_values_placeless [] = refl
bracket_values_placeless (plain w ∷ is) = refl
bracket_values_placeless (labelled v l ∷ is) = rw (bracket_values_placeless is) (go (bracket_values is))
  where
    go : (o : Option (List Word)) → Option.map (λ ws. placeless v ∷ ws) (Option.map (map placeless) o) ≡ Option.map (map placeless) (Option.map (λ ws. v ∷ ws) o)
    go none = refl
    go (some ws) = refl

behind_label_placeless : (values : List Item → Option (List Word)) → ((js : List Item) → values (map placeless_item js) ≡ Option.map (map placeless) (values js))
    → (is : List Item) → values_behind_label values (map placeless_item is) ≡ Option.map (map placeless) (values_behind_label values is)
unfolding values_behind_label placeless_item placeless plain_word
behind_label_placeless values h [] = refl
behind_label_placeless values h (plain w ∷ is) = go (is_name w.bytes)
  where
    go : (b : Bool) → cond b (values (map placeless_item is)) none ≡ Option.map (map placeless) (cond b (values is) none)
    go true = h is
    go false = refl
behind_label_placeless values h (labelled v l ∷ is) = refl

shaped_placeless : (b : Bool) (is : List Item) → shaped_values b (map placeless_item is) ≡ Option.map (map placeless) (shaped_values b is)
unfolding shaped_values
shaped_placeless true is = bracket_values_placeless is
shaped_placeless false is = plain_values_placeless is

pub row_values_placeless : (s : Scheme ℕ) (is : List Item) → row_values s (map placeless_item is) ≡ Option.map (map placeless) (row_values s is)
unfolding row_values
row_values_placeless s is = go (leads_label s) (has_brackets s)
  where
    go : (a b : Bool) → cond a (values_behind_label (shaped_values b) (map placeless_item is)) (shaped_values b (map placeless_item is)) ≡ Option.map (map placeless) (cond a (values_behind_label (shaped_values b) is) (shaped_values b is))
    go true b = behind_label_placeless (shaped_values b) (shaped_placeless b) is
    go false b = shaped_placeless b is

leading_name_placeless : (is : List Item) → leading_name (map placeless_item is) ≡ map placeless (leading_name is)
unfolding leading_name placeless_item placeless plain_word
leading_name_placeless [] = refl
leading_name_placeless (plain w ∷ is) = go (is_name w.bytes)
  where
    go : (b : Bool) → cond b (placeless w ∷ []) [] ≡ map placeless (cond b (w ∷ []) [])
    go true = refl
    go false = refl
leading_name_placeless (labelled v l ∷ is) = refl

bracket_labels_placeless : (is : List Item) → bracket_labels (map placeless_item is) ≡ map placeless (bracket_labels is)
unfolding bracket_labels placeless_item
bracket_labels_placeless [] = refl
bracket_labels_placeless (plain w ∷ is) = bracket_labels_placeless is
bracket_labels_placeless (labelled v l ∷ is) = ap (λ ws. placeless l ∷ ws) (bracket_labels_placeless is)

pub row_labels_placeless : (s : Scheme ℕ) (is : List Item) → row_labels s (map placeless_item is) ≡ map placeless (row_labels s is)
unfolding row_labels
row_labels_placeless s is = (λ i. first (leads_label s) i ++ others (has_brackets s) i) ∙ sym (map_append placeless (cond (leads_label s) (leading_name is) []) (cond (has_brackets s) (bracket_labels is) []))
  where
    first : (a : Bool) → cond a (leading_name (map placeless_item is)) [] ≡ map placeless (cond a (leading_name is) [])
    first true = leading_name_placeless is
    first false = refl

    others : (b : Bool) → cond b (bracket_labels (map placeless_item is)) [] ≡ map placeless (cond b (bracket_labels is) [])
    others true = bracket_labels_placeless is
    others false = refl

bytes_placeless : (o : Option (List Word)) → map (λ (w : Word). w.bytes) (get_or (Option.map (map placeless) o) []) ≡ map (λ (w : Word). w.bytes) (get_or o [])
unfolding placeless plain_word
bytes_placeless none = refl
bytes_placeless (some ws) = map_map (λ (w : Word). w.bytes) placeless ws

row_meant_placeless : (d : Policy) (t : Word) (is : List Item) → row_meant d (placeless t) (map placeless_item is) ≡ row_meant d t is
unfolding row_meant table_of label_of scheme_of is_called placeless plain_word
row_meant_placeless d t is =
    rw (
      row_values_placeless (scheme_of d t) is,
      bytes_placeless (row_values (scheme_of d t) is),
      row_labels_placeless (scheme_of d t) is,
      map_map (λ w. or_zero (label_of d w)) placeless (row_labels (scheme_of d t) is),
    )

-- a form whose parts are those of a row form is a row form
pub row_form_lem : (f : Form) (t : Word) (is : List Item) → row_parts f ≡ some (t, is) → (u : Word) × (js : List Item) × (f ≡ row u js) × (placeless u ≡ t) × (map placeless_item js ≡ is)
unfolding row_parts
row_form_lem (row u js) t is e = let p = some-injective _ _ e in (u, js, refl, ap (λ x. x.0) p, ap (λ x. x.1) p)
row_form_lem (purpose n p) t is e = absurd (none-ne-some _ e)
row_form_lem (role n p) t is e = absurd (none-ne-some _ e)
row_form_lem (attr r a k) t is e = absurd (none-ne-some _ e)
row_form_lem (user u r gs) t is e = absurd (none-ne-some _ e)
row_form_lem (cond_role c r x) t is e = absurd (none-ne-some _ e)
row_form_lem (grant p c) t is e = absurd (none-ne-some _ e)
row_form_lem (label l ps qs) t is e = absurd (none-ne-some _ e)
row_form_lem (table u s cs) t is e = absurd (none-ne-some _ e)
row_form_lem (note u n) t is e = absurd (none-ne-some _ e)

-- it defines nothing, and gives the row of its parts
pub row_adds : (d : Policy) (f : Form) (t : Word) (is : List Item) → row_parts f ≡ some (t, is) → (define d f ≡ d) × (rows_given d f ≡ row_meant d t is ∷ [])
unfolding define rows_given
row_adds d f t is e =
    let x = row_form_lem f t is e in
    (ap (define d) x.2, ap (rows_given d) x.2 ∙ ap (λ r. r ∷ []) (sym (row_meant_placeless d x.0 x.1) ∙ (λ i. row_meant d (x.3 i) (x.4 i))))

-- every name that a row form uses is known
unfoldable pub RowKnown : Policy → Word → List Item → Type 0
RowKnown d t is = (there (table_of d t) ≡ true) × (all_of (λ w. there (label_of d w)) (row_labels (scheme_of d t) is) ≡ true)

row_known_placeless : (d : Policy) (u : Word) (js : List Item) → unknown d (row u js) ≡ none → RowKnown d (placeless u) (map placeless_item js)
unfolding RowKnown unknown table_of label_of scheme_of is_called placeless plain_word
row_known_placeless d u js h = (
  unless_none _ _ (leftmost_head _ _ h),
  rw (row_labels_placeless (scheme_of d u) js, all_map (λ w. there (label_of d w)) placeless (row_labels (scheme_of d u) js)) (missing_none _ _ (leftmost_head _ _ (leftmost_tail _ _ h))),
)

-- the table and the labels of an accepted row form are known
pub row_known : (d : Policy) (f : Form) (t : Word) (is : List Item) → row_parts f ≡ some (t, is) → unknown d f ≡ none → RowKnown d t is
row_known d f t is e h =
    let x = row_form_lem f t is e in
    subst₂ (RowKnown d) x.3 x.4 (row_known_placeless d x.0 x.1 (rw x.2 at h))

-- ---- the values and the labels that are read are those that were written

plain_back : (vs : List Value) → plain_values (map (λ v. plain (plain_word v)) vs) ≡ some (map plain_word vs)
unfolding plain_values
plain_back [] = refl
plain_back (v ∷ vs) = rw (plain_back vs)

bracket_back : (vs : List Value) (ls : List Name) → length ls ≡ length vs → bracket_values (zip_with (λ v l. labelled (plain_word v) (plain_word l)) vs ls) ≡ some (map plain_word vs)
unfolding bracket_values zip_with
bracket_back [] ls e = refl
bracket_back (v ∷ vs) [] e = absurd (omega arith)
bracket_back (v ∷ vs) (l ∷ ls) e = rw (bracket_back vs ls (omega arith))

brackets_back : (vs : List Value) (ls : List Name) → length ls ≡ length vs → bracket_labels (zip_with (λ v l. labelled (plain_word v) (plain_word l)) vs ls) ≡ map plain_word ls
unfolding bracket_labels zip_with
brackets_back [] [] e = refl
brackets_back [] (l ∷ ls) e = absurd (omega arith)
brackets_back (v ∷ vs) [] e = absurd (omega arith)
brackets_back (v ∷ vs) (l ∷ ls) e = ap (λ x. plain_word l ∷ x) (brackets_back vs ls (omega arith))

empty_of : (ls : List Name) → length ls ≡ 0 → [] ≡ map plain_word ls
empty_of [] e = refl
empty_of (l ∷ ls) e = absurd (omega arith)

-- ---- the values and labels behind the row's own

shaped_back : (b : Bool) (ls : List Name) (vs : List Value) → length ls ≡ cond b (length vs) 0 → shaped_values b (value_items b ls vs) ≡ some (map plain_word vs)
unfolding shaped_values value_items
shaped_back true ls vs e = bracket_back vs ls e
shaped_back false ls vs e = plain_back vs

marks_back : (b : Bool) (ls : List Name) (vs : List Value) → length ls ≡ cond b (length vs) 0 → cond b (bracket_labels (value_items b ls vs)) [] ≡ map plain_word ls
unfolding value_items
marks_back true ls vs e = brackets_back vs ls e
marks_back false ls vs e = empty_of ls e

-- ---- with it, where the row leads with one

values_by : (a b : Bool) (ls : List Name) (vs : List Value) → length ls ≡ cond a (suc (cond b (length vs) 0)) (cond b (length vs) 0) → all_of is_name ls ≡ true
    → (let is : List Item = map (λ v. plain (plain_word v)) (cond a (take 1 ls) []) ++ value_items b (cond a (drop 1 ls) ls) vs in cond a (values_behind_label (shaped_values b) is) (shaped_values b is)) ≡ some (map plain_word vs)
unfolding values_behind_label plain_word all_of
values_by false b ls vs e h = shaped_back b ls vs e
values_by true b [] vs e h = absurd (omega arith)
values_by true b (l ∷ ls) vs e h = rw (and_left (is_name l) _ h, values_behind_label) (shaped_back b ls vs (omega arith))

labels_by : (a b : Bool) (ls : List Name) (vs : List Value) → length ls ≡ cond a (suc (cond b (length vs) 0)) (cond b (length vs) 0) → all_of is_name ls ≡ true
    → (let is : List Item = map (λ v. plain (plain_word v)) (cond a (take 1 ls) []) ++ value_items b (cond a (drop 1 ls) ls) vs in cond a (leading_name is) [] ++ cond b (bracket_labels is) []) ≡ map plain_word ls
unfolding leading_name bracket_labels plain_word all_of
labels_by false b ls vs e h = marks_back b ls vs e
labels_by true b [] vs e h = absurd (omega arith)
labels_by true b (l ∷ ls) vs e h = rw (and_left (is_name l) _ h, leading_name) (ap (λ (ws : List Word). plain_word l ∷ ws) (marks_back b ls vs (omega arith)))

pub values_back : (s : Scheme ℕ) (ls : List Name) (vs : List Value) → length ls ≡ label_count s (length vs) → all_of is_name ls ≡ true → row_values s (items_of s ls vs) ≡ some (map plain_word vs)
unfolding row_values items_of label_count
values_back s ls vs e h = values_by (leads_label s) (has_brackets s) ls vs e h

pub labels_back : (s : Scheme ℕ) (ls : List Name) (vs : List Value) → length ls ≡ label_count s (length vs) → all_of is_name ls ≡ true → row_labels s (items_of s ls vs) ≡ map plain_word ls
unfolding row_labels items_of label_count
labels_back s ls vs e h = labels_by (leads_label s) (has_brackets s) ls vs e h

pub bytes_back : (vs : List Value) → map (λ (w : Word). w.bytes) (map plain_word vs) ≡ vs
unfolding plain_word
bytes_back [] = refl
bytes_back (v ∷ vs) = ap (λ l. v ∷ l) (bytes_back vs)
