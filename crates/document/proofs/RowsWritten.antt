-- An accepted row line is written out from its parts, whatever its table's scheme: its keyword, the table, the labels that the row
-- uses and its values. Assumes nothing.
use Prim.Native.Nat.{suc, ℕ}
use lib.ListN.{drop, length, take}
use mathlib.Core.Bool.{Bool, cond, false, true}
use mathlib.Core.List.{List, [], ◌++◌, ◌∷◌, map, zip_with}
use mathlib.Core.Option.{Option, get_or, none-ne-some, some-injective, none, some}
use mathlib.Core.Path.{◌∙◌, ◌≡◌, ap, refl, subst, sym}
use Rattle.document.proofs.RowsFit.{row_values_lem}
use Rattle.document.specs.Lookup.{scheme_of}
use Rattle.document.specs.Meaning.{row_meant}
use Rattle.document.specs.NameFaults.{bracket_labels, leading_name, row_labels}
use Rattle.document.specs.Policy.{Policy}
use Rattle.document.specs.ValueFaults.{bracket_values, misfit, plain_values, row_values, shaped_values, values_behind_label}
use Rattle.form.proofs.RowBack.{is_item, item_text, row_text_bytes}
use Rattle.form.proofs.RowWritten.{row_written}
use Rattle.form.specs.Form.{Item, Scheme, has_brackets, labelled, leads_label, plain, row}
use Rattle.form.specs.FormReader.{form_of}
use Rattle.form.specs.RowText.{bracket_text, item_texts, keyword_in, label_count, row_text, spaced, value_texts}
use Rattle.lists.proofs.ListLaws.{map_inv}
use Rattle.lists.proofs.Tests.{and_both, and_left, and_right}
use Rattle.lists.specs.Lists.{all_of}
use Rattle.calendar.specs.CellValues.{is_cell_value}
use Rattle.text.specs.Bytes.{ascii}
use Rattle.text.specs.Names.{Name, is_name, same_name}
use Rattle.text.specs.Numbers.{Value}
use Rattle.text.specs.Words.{Word}

-- the bytes of words
abbrev pub bytes_of : List Word → List (List ℕ)
bytes_of ws = map (λ (w : Word). w.bytes) ws

-- the items are those of a row with these labels and values, which leads with a label (a) and has brackets (b) or not
pub record Shaped (a b : Bool) (is : List Item) (ls : List Name) (vs : List Value) : Type 0 where
  pub are_labels : all_of is_name ls ≡ true
  pub are_values : all_of is_cell_value vs ≡ true
  pub enough_labels : length ls ≡ cond a (suc (cond b (length vs) 0)) (cond b (length vs) 0)
  pub texts : map item_text is ≡ cond a (take 1 ls) [] ++ value_texts b (cond a (drop 1 ls) ls) vs

-- ---- the items by their shape

plain_shaped : (is : List Item) (ws : List Word) → all_of is_item is ≡ true → plain_values is ≡ some ws → Shaped false false is [] (bytes_of ws)
unfolding plain_values all_of is_item item_text value_texts
plain_shaped [] ws h e = subst (λ (v : List Word). Shaped false false [] [] (bytes_of v)) (some-injective _ _ e) (record { are_labels = refl; are_values = refl; enough_labels = refl; texts = refl })
plain_shaped (plain w ∷ is) ws h e =
    let i = map_inv _ (plain_values is) ws e in
    let x = plain_shaped is i.0 (and_right (is_cell_value w.bytes) _ h) i.1 in
    subst (λ (v : List Word). Shaped false false (plain w ∷ is) [] (bytes_of v)) (sym i.2) (record {
      are_labels = refl;
      are_values = and_both (is_cell_value w.bytes) _ (and_left (is_cell_value w.bytes) _ h) x.are_values;
      enough_labels = refl;
      texts = ap (λ (ts : List (List ℕ)). w.bytes ∷ ts) x.texts;
    })
plain_shaped (labelled v l ∷ is) ws h e = absurd (none-ne-some _ e)

bracket_shaped : (is : List Item) (ws : List Word) → all_of is_item is ≡ true → bracket_values is ≡ some ws → Shaped false true is (bytes_of (bracket_labels is)) (bytes_of ws)
unfolding bracket_values bracket_labels all_of is_item item_text value_texts zip_with
bracket_shaped [] ws h e = subst (λ (v : List Word). Shaped false true [] [] (bytes_of v)) (some-injective _ _ e) (record { are_labels = refl; are_values = refl; enough_labels = refl; texts = refl })
bracket_shaped (plain w ∷ is) ws h e = absurd (none-ne-some _ e)
bracket_shaped (labelled v l ∷ is) ws h e =
    let i = map_inv _ (bracket_values is) ws e in
    let fit = and_left (is_item (labelled v l)) _ h in
    let x = bracket_shaped is i.0 (and_right (is_item (labelled v l)) _ h) i.1 in
    subst (λ (u : List Word). Shaped false true (labelled v l ∷ is) (l.bytes ∷ bytes_of (bracket_labels is)) (bytes_of u)) (sym i.2) (record {
      are_labels = and_both (is_name l.bytes) _ (and_right (is_cell_value v.bytes) _ fit) x.are_labels;
      are_values = and_both (is_cell_value v.bytes) _ (and_left (is_cell_value v.bytes) _ fit) x.are_values;
      enough_labels = ap suc x.enough_labels;
      texts = ap (λ (ts : List (List ℕ)). bracket_text v.bytes l.bytes ∷ ts) x.texts;
    })

values_shaped : (b : Bool) (is : List Item) (ws : List Word) → all_of is_item is ≡ true → shaped_values b is ≡ some ws → Shaped false b is (bytes_of (cond b (bracket_labels is) [])) (bytes_of ws)
unfolding shaped_values
values_shaped true is ws h e = bracket_shaped is ws h e
values_shaped false is ws h e = plain_shaped is ws h e

led_shaped : (b : Bool) (is : List Item) (ws : List Word) → all_of is_item is ≡ true → values_behind_label (shaped_values b) is ≡ some ws
    → Shaped true b is (bytes_of (leading_name is ++ cond b (bracket_labels is) [])) (bytes_of ws)
unfolding values_behind_label leading_name bracket_labels all_of is_item item_text
led_shaped b [] ws h e = absurd (none-ne-some _ e)
led_shaped b (plain w ∷ is) ws h e = go (is_name w.bytes) refl e
  where
    go : (n : Bool) → is_name w.bytes ≡ n → cond n (shaped_values b is) none ≡ some ws → Shaped true b (plain w ∷ is) (bytes_of (cond n (w ∷ []) [] ++ cond b (bracket_labels is) [])) (bytes_of ws)
    go true n e =
        let x = values_shaped b is ws (and_right (is_cell_value w.bytes) _ h) e in
        record { are_labels = and_both (is_name w.bytes) _ n x.are_labels; are_values = x.are_values; enough_labels = ap suc x.enough_labels; texts = ap (λ (ts : List (List ℕ)). w.bytes ∷ ts) x.texts }
    go false n e = absurd (none-ne-some _ e)
led_shaped b (labelled v l ∷ is) ws h e = absurd (none-ne-some _ e)

items_shaped : (s : Scheme ℕ) (is : List Item) (ws : List Word) → all_of is_item is ≡ true → row_values s is ≡ some ws → Shaped (leads_label s) (has_brackets s) is (bytes_of (row_labels s is)) (bytes_of ws)
unfolding row_values row_labels
items_shaped s is ws h e = go (leads_label s) (has_brackets s) e
  where
    go : (a b : Bool) → cond a (values_behind_label (shaped_values b) is) (shaped_values b is) ≡ some ws → Shaped a b is (bytes_of (cond a (leading_name is) [] ++ cond b (bracket_labels is) [])) (bytes_of ws)
    go true b e = led_shaped b is ws h e
    go false b e = values_shaped b is ws h e

-- ---- row lines

-- the line is a row line of this scheme, written out from its own keyword, the table, the labels and the values
pub record WrittenFrom (s : Scheme ℕ) (line : List ℕ) (t : Name) (ls : List Name) (vs : List Value) : Type 0 where
  pub is_row : same_name (keyword_in line) (ascii "row") ≡ true
  pub is_table : is_name t ≡ true
  pub are_labels : all_of is_name ls ≡ true
  pub are_values : all_of is_cell_value vs ≡ true
  pub enough_labels : length ls ≡ label_count s (length vs)
  pub written : line ≡ row_text s (keyword_in line) t ls vs

-- A line that is read as a row form, whose items are shaped for the scheme, is written out from its keyword, the table, the labels that
-- it uses and its values.
pub row_parts_lem : (line : List ℕ) (t : Word) (is : List Item) → form_of line ≡ some (row t is) → (s : Scheme ℕ) (ws : List Word) → row_values s is ≡ some ws
    → WrittenFrom s line t.bytes (bytes_of (row_labels s is)) (bytes_of ws)
unfolding item_texts label_count
row_parts_lem line t is f s ws e =
    let w = row_written line t is f in
    let x = items_shaped s is ws w.are_items e in
    record {
      is_row = w.is_row;
      is_table = w.is_table;
      are_labels = x.are_labels;
      are_values = x.are_values;
      enough_labels = x.enough_labels;
      written = w.written
          ∙ ap (λ (ts : List (List ℕ)). 40 ∷ (keyword_in line ++ 32 ∷ (t.bytes ++ (spaced ts ++ 41 ∷ [])))) x.texts
          ∙ sym (row_text_bytes s (keyword_in line) t.bytes (bytes_of (row_labels s is)) (bytes_of ws));
    }

-- the same where the scheme is that of its table: the values are those of the row that the line means
pub row_meant_parts : (d : Policy) (line : List ℕ) (t : Word) (is : List Item) → form_of line ≡ some (row t is) → (ws : List Word) → row_values (scheme_of d t) is ≡ some ws
    → WrittenFrom (scheme_of d t) line t.bytes (bytes_of (row_labels (scheme_of d t) is)) (row_meant d t is).values
unfolding row_meant
row_meant_parts d line t is f ws e =
    subst (λ (o : Option (List Word)). WrittenFrom (scheme_of d t) line t.bytes (bytes_of (row_labels (scheme_of d t) is)) (bytes_of (get_or o []))) (sym e)
    (row_parts_lem line t is f (scheme_of d t) ws e)

-- the items of an accepted row line are shaped for its table's scheme
pub row_shaped : (d : Policy) (t : Word) (is : List Item) → misfit d (row t is) ≡ false → (ws : List Word) × (row_values (scheme_of d t) is ≡ some ws)
unfolding misfit
row_shaped d t is m = let v = row_values_lem _ _ m in (v.0, v.1)

-- An accepted row line is written out from its keyword, its table, the labels that it uses and the values of the row that it means.
pub accepted_row : (d : Policy) (line : List ℕ) (t : Word) (is : List Item) → form_of line ≡ some (row t is) → misfit d (row t is) ≡ false
    → WrittenFrom (scheme_of d t) line t.bytes (bytes_of (row_labels (scheme_of d t) is)) (row_meant d t is).values
accepted_row d line t is f m = let v = row_shaped d t is m in row_meant_parts d line t is f v.0 v.1
