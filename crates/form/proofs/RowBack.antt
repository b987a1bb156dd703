-- Reading a row line that was written out from its parts gives back the parts. Assumes nothing.
use Prim.Native.Nat.{◌+◌, ◌≤◌, suc, zero, ℕ}
use Prim.Native.String.{String}
use lib.ListN.{drop, length, length-append, take}
use mathlib.Core.Bool.{Bool, ◌&&◌, cond, false, true}
use mathlib.Core.List.{List, [], ◌++◌, ◌∷◌, append_assoc, flatten, map, zip_with}
use mathlib.Core.Option.{Option, none, some}
use mathlib.Core.Path.{◌∙◌, ◌≡◌, ap, refl, subst, sym}
use native.Mathlib.Omega.{arith}
use Rattle.form.specs.Form.{Form, Item, Scheme, attr, cond_role, grant, has_brackets, label, labelled, leads_label, note, plain, purpose, role, row, table, user}
use Rattle.form.specs.FormReader.{form, form_of, item, labelled_item, line_forms, plain_item, row_form}
use Rattle.form.specs.RowText.{bracket_text, item_texts, row_text, spaced, value_texts}
use Rattle.form.proofs.WalkLaws.{item_labelled, item_value}
use Rattle.calendar.proofs.CellValues.{cell_value_fails, cell_value_reads, name_cell}
use Rattle.lists.proofs.KeptLaws.{all_append}
use Rattle.lists.proofs.ListLaws.{map_append, map_map}
use Rattle.text.proofs.ReadBack.{Gives, Reads, bind_reads, bracketed_reads, give_reads, gives, left, gives_there, name_reads, next_reads, placeless, word_reads}
use Rattle.text.proofs.NameLaws.{same_other}
use Rattle.text.proofs.WordLaws.{same_name_bytes}
use Rattle.lists.proofs.Tests.{and_both, and_left, and_right}
use Rattle.calendar.specs.CellValues.{cell_value, is_cell_value}
use Rattle.text.specs.Brackets.{among, keyword, many, up_to}
use Rattle.text.specs.Bytes.{ascii, first_byte, is_digit, is_letter, is_name_byte}
use Rattle.lists.specs.Lists.{all_of, there}
use Rattle.text.specs.Names.{Name, is_name, lower, same_byte, same_name}
use Rattle.text.specs.Numbers.{Value}
use Rattle.text.specs.Reader.{Left, ended, if_next, whole}
use Rattle.text.specs.Words.{Word, is_called, plain_word}

-- ---- row forms without places

unfoldable pub placeless_item : Item → Item
placeless_item (plain w) = plain (placeless w)
placeless_item (labelled v l) = labelled (placeless v) (placeless l)

-- the table and the items of a row form, without places
unfoldable pub row_parts : Form → Option (Word × List Item)
row_parts (purpose n p) = none
row_parts (role n p) = none
row_parts (attr r a k) = none
row_parts (user u r gs) = none
row_parts (cond_role c r t) = none
row_parts (grant p c) = none
row_parts (label l ps qs) = none
row_parts (table t s cs) = none
row_parts (note t n) = none
row_parts (row t is) = some (placeless t, map placeless_item is)

-- ---- items

-- the bytes of an item
unfoldable pub item_text : Item → List ℕ
item_text (plain w) = w.bytes
item_text (labelled v l) = bracket_text v.bytes l.bytes

-- its words are values and names
unfoldable pub is_item : Item → Bool
is_item (plain w) = is_cell_value w.bytes
is_item (labelled v l) = is_cell_value v.bytes && is_name l.bytes

pub bracket_append : (v l rest : List ℕ) → bracket_text v l ++ rest ≡ 40 ∷ (v ++ 32 ∷ (l ++ 41 ∷ rest))
unfolding bracket_text
bracket_append v l rest = simp append_assoc

labelled_item_reads : (v l rest : List ℕ) → is_cell_value v ≡ true → is_name l ≡ true → Reads placeless_item labelled_item (bracket_text v l ++ rest) (labelled (plain_word v) (plain_word l)) rest
unfolding labelled_item placeless_item is_name_byte is_letter is_digit
labelled_item_reads v l rest h k = rw (bracket_append v l rest) (bracketed_reads
    (bind_reads (cell_value_reads v _ h refl) (λ y p. bind_reads (next_reads (name_reads l _ k refl)) (λ z q. give_reads _ _ (λ i. labelled (p i) (q i))))))

plain_item_reads : (v rest : List ℕ) → is_cell_value v ≡ true → is_name_byte (first_byte rest) ≡ false → Reads placeless_item plain_item (v ++ rest) (plain (plain_word v)) rest
unfolding plain_item placeless_item
plain_item_reads v rest h k = bind_reads (cell_value_reads v rest h k) (λ y p. give_reads _ _ (λ i. plain (p i)))

item_reads : (i : Item) (rest : List ℕ) → is_item i ≡ true → is_name_byte (first_byte rest) ≡ false → Reads placeless_item item (item_text i ++ rest) (placeless_item i) rest
unfolding is_item item_text placeless_item placeless there
item_reads (plain w) rest h k = record {
  from = λ at.
      subst (Gives placeless_item (plain (plain_word w.bytes)) rest) (sym (item_value (left at (w.bytes ++ rest)) (gives_there ((cell_value_reads w.bytes rest h k).from at))))
      ((plain_item_reads w.bytes rest h k).from at);
}
item_reads (labelled v l) rest h k = record {
  from = λ at.
      let is_value : is_cell_value v.bytes ≡ true = and_left (is_cell_value v.bytes) _ h in
      let is_label : is_name l.bytes ≡ true = and_right (is_cell_value v.bytes) _ h in
      let no_value : there (cell_value (left at (bracket_text v.bytes l.bytes ++ rest))) ≡ false =
      ap (λ (bs : List ℕ). there (cell_value (left at bs))) (bracket_append v.bytes l.bytes rest) ∙ ap there (cell_value_fails l.bytes rest is_label at v.bytes is_value) in
      subst (Gives placeless_item (labelled (plain_word v.bytes) (plain_word l.bytes)) rest) (sym (item_labelled (left at (bracket_text v.bytes l.bytes ++ rest)) no_value))
      ((labelled_item_reads v.bytes l.bytes rest is_value is_label).from at);
}

-- ---- rows

-- all that follows T in a row line is no name byte at its start
spaced_begins : (is : List Item) → is_name_byte (first_byte (spaced (map item_text is) ++ 41 ∷ [])) ≡ false
unfolding spaced flatten is_name_byte is_letter is_digit
spaced_begins [] = refl
spaced_begins (i ∷ is) = refl

spaced_append : (t : List ℕ) (ts : List (List ℕ)) (rest : List ℕ) → spaced (t ∷ ts) ++ rest ≡ 32 ∷ (t ++ (spaced ts ++ rest))
unfolding spaced flatten
spaced_append t ts rest = simp append_assoc

enough : (is : List Item) → length is ≤ length (spaced (map item_text is) ++ 41 ∷ [])
unfolding spaced flatten
enough [] = omega arith
enough (i ∷ is) =
    let more : length is ≤ length (spaced (map item_text is)) + 1 = rw length-append at (enough is) in
    rw (length-append (32 ∷ item_text i ++ spaced (map item_text is)) (41 ∷ []), length-append (item_text i) (spaced (map item_text is))) (omega arith)

items_reads : (is : List Item) (n : ℕ) → length is ≤ n → all_of is_item is ≡ true
    → Reads (map placeless_item) (up_to n item) (spaced (map item_text is) ++ 41 ∷ []) (map placeless_item is) (41 ∷ [])
unfolding up_to if_next all_of
items_reads [] zero l h = record { from = λ at. unfold spaced flatten in (give_reads [] (41 ∷ []) refl).from at }
items_reads [] (suc n) l h = record { from = λ at. unfold spaced flatten in (give_reads [] (41 ∷ []) refl).from at }
items_reads (i ∷ is) zero l h = absurd (omega arith)
items_reads (i ∷ is) (suc n) l h = rw (spaced_append (item_text i) (map item_text is) (41 ∷ [])) (record { from = λ at. go at (items_reads is n (omega arith) (and_right (is_item i) _ h)) })
  where
    go : (at : ℕ) → Reads (map placeless_item) (up_to n item) (spaced (map item_text is) ++ 41 ∷ []) (map placeless_item is) (41 ∷ [])
        → Gives (map placeless_item) (map placeless_item (i ∷ is)) (41 ∷ []) (up_to (suc n) item (left at (32 ∷ (item_text i ++ (spaced (map item_text is) ++ 41 ∷ [])))))
    go at rest = (bind_reads (next_reads (item_reads i _ (and_left (is_item i) _ h) (spaced_begins is))) (λ y p. bind_reads rest (λ ys ps. give_reads _ _ (λ j. p j ∷ ps j)))).from at

many_reads : (is : List Item) → all_of is_item is ≡ true → Reads (map placeless_item) (many item) (spaced (map item_text is) ++ 41 ∷ []) (map placeless_item is) (41 ∷ [])
unfolding many
many_reads is h = record { from = λ at. (items_reads is _ (enough is) h).from at }

row_form_reads : (t : Name) (is : List Item) → is_name t ≡ true → all_of is_item is ≡ true
    → Reads row_parts row_form (32 ∷ (t ++ (spaced (map item_text is) ++ 41 ∷ []))) (some (plain_word t, map placeless_item is)) (41 ∷ [])
unfolding row_form row_parts
row_form_reads t is h k =
    bind_reads (next_reads (name_reads t _ h (spaced_begins is))) (λ y p. bind_reads (many_reads is k) (λ ys ps. give_reads _ _ (λ i. some (p i, ps i))))

-- a word that is called `row` is called by no other keyword, and calls for a row form
row_among : (y : Word) → same_name y.bytes (ascii "row") ≡ true → among line_forms y ≡ row_form
unfolding line_forms among is_called same_name same_byte lower
row_among y e = rw (
  other "purpose" refl,
  other "role" refl,
  other "attr" refl,
  other "user" refl,
  other "cond-role" refl,
  other "grant" refl,
  other "label" refl,
  other "table" refl,
  other "public" refl,
  other "weak" refl,
  other "strong" refl,
  e,
)
  where
    other : (k : String) → same_name (ascii "row") (ascii k) ≡ false → same_name y.bytes (ascii k) ≡ false
    other k d = same_other y.bytes (ascii "row") (ascii k) e d

-- the name bytes of the keyword
pub row_bytes : (k : Name) → same_name k (ascii "row") ≡ true → all_of is_name_byte k ≡ true
unfolding all_of is_name_byte is_letter is_digit
row_bytes k e = same_name_bytes k (ascii "row") e refl

-- the keyword `row`, in any case of letters, calls for the rest of a row form
keyword_row : (k : Name) → same_name k (ascii "row") ≡ true → {bs : List ℕ} {x : Option (Word × List Item)} {rest : List ℕ} → Reads row_parts row_form (32 ∷ bs) x rest
    → Reads row_parts (keyword line_forms) (k ++ 32 ∷ bs) x rest
unfolding keyword is_name_byte is_letter is_digit
keyword_row k e {bs} h = bind_reads (word_reads k (32 ∷ bs) (row_bytes k e) refl) (λ y p. rw (row_among y (called y p)) h)
  where
    called : (y : Word) → placeless y ≡ plain_word k → same_name y.bytes (ascii "row") ≡ true
    called y p = unfold placeless plain_word in ap (λ (w : Word). same_name w.bytes (ascii "row")) p ∙ e

form_row : (k : Name) → same_name k (ascii "row") ≡ true → {bs : List ℕ} {x : Option (Word × List Item)} {rest : List ℕ} → Reads row_parts row_form (32 ∷ bs) x (41 ∷ rest)
    → Reads row_parts form (40 ∷ (k ++ 32 ∷ bs)) x rest
unfolding form
form_row k e h = bracketed_reads (keyword_row k e h)

-- ---- the items of a row line, by scheme

plain_texts : (vs : List Value) → map item_text (map (λ v. plain (plain_word v)) vs) ≡ vs
unfolding item_text plain_word
plain_texts [] = refl
plain_texts (v ∷ vs) = ap (λ l. v ∷ l) (plain_texts vs)

bracket_texts : (vs : List Value) (ls : List Name) → map item_text (zip_with (λ v l. labelled (plain_word v) (plain_word l)) vs ls) ≡ zip_with bracket_text vs ls
unfolding item_text plain_word zip_with
bracket_texts [] ls = refl
bracket_texts (v ∷ vs) [] = refl
bracket_texts (v ∷ vs) (l ∷ ls) = ap (λ x. bracket_text v l ∷ x) (bracket_texts vs ls)

plain_items : (vs : List Value) → all_of is_cell_value vs ≡ true → all_of is_item (map (λ v. plain (plain_word v)) vs) ≡ true
unfolding all_of is_item plain_word
plain_items [] h = refl
plain_items (v ∷ vs) h = rw (and_left (is_cell_value v) _ h) (plain_items vs (and_right (is_cell_value v) _ h))

-- the row's label, where it leads with one, and the labels behind it
lead_cells : (a : Bool) (ls : List Name) → all_of is_name ls ≡ true → all_of is_cell_value (cond a (take 1 ls) []) ≡ true
unfolding all_of
lead_cells false ls h = refl
lead_cells true [] h = refl
lead_cells true (l ∷ ls) h = and_both (is_cell_value l) true (name_cell l (and_left (is_name l) _ h)) refl

rest_names : (a : Bool) (ls : List Name) → all_of is_name ls ≡ true → all_of is_name (cond a (drop 1 ls) ls) ≡ true
unfolding all_of
rest_names false ls h = h
rest_names true [] h = refl
rest_names true (l ∷ ls) h = and_right (is_name l) _ h

bracket_items : (vs : List Value) (ls : List Name) → all_of is_name ls ≡ true → all_of is_cell_value vs ≡ true
    → all_of is_item (zip_with (λ v l. labelled (plain_word v) (plain_word l)) vs ls) ≡ true
unfolding all_of is_item plain_word zip_with
bracket_items [] ls h k = refl
bracket_items (v ∷ vs) [] h k = refl
bracket_items (v ∷ vs) (l ∷ ls) h k = rw (and_left (is_cell_value v) _ k, and_left (is_name l) _ h) (bracket_items vs ls (and_right (is_name l) _ h) (and_right (is_cell_value v) _ k))

map_plain : (vs : List Value) → map placeless_item (map (λ v. plain (plain_word v)) vs) ≡ map (λ v. plain (plain_word v)) vs
unfolding placeless_item placeless plain_word
map_plain vs = map_map placeless_item (λ v. plain (plain_word v)) vs

map_bracket : (vs : List Value) (ls : List Name) → map placeless_item (zip_with (λ v l. labelled (plain_word v) (plain_word l)) vs ls) ≡ zip_with (λ v l. labelled (plain_word v) (plain_word l)) vs ls
unfolding placeless_item placeless plain_word zip_with
map_bracket [] ls = refl
map_bracket (v ∷ vs) [] = refl
map_bracket (v ∷ vs) (l ∷ ls) = ap (λ x. labelled (plain_word v) (plain_word l) ∷ x) (map_bracket vs ls)

-- the values of a row line as items, in brackets with their labels or without
unfoldable pub value_items : Bool → List Name → List Value → List Item
value_items false ls vs = map (λ v. plain (plain_word v)) vs
value_items true ls vs = zip_with (λ v l. labelled (plain_word v) (plain_word l)) vs ls

value_texts_lem : (b : Bool) (ls : List Name) (vs : List Value) → map item_text (value_items b ls vs) ≡ value_texts b ls vs
unfolding value_items value_texts
value_texts_lem false ls vs = plain_texts vs
value_texts_lem true ls vs = bracket_texts vs ls

value_fit : (b : Bool) (ls : List Name) (vs : List Value) → all_of is_name ls ≡ true → all_of is_cell_value vs ≡ true → all_of is_item (value_items b ls vs) ≡ true
unfolding value_items
value_fit false ls vs h k = plain_items vs k
value_fit true ls vs h k = bracket_items vs ls h k

value_placeless : (b : Bool) (ls : List Name) (vs : List Value) → map placeless_item (value_items b ls vs) ≡ value_items b ls vs
unfolding value_items
value_placeless false ls vs = map_plain vs
value_placeless true ls vs = map_bracket vs ls

module _ {L : Type 0} where
  -- the items, without places, that a row line of this scheme gives
  unfoldable pub items_of : Scheme L → List Name → List Value → List Item
  items_of s ls vs = map (λ v. plain (plain_word v)) (cond (leads_label s) (take 1 ls) []) ++ value_items (has_brackets s) (cond (leads_label s) (drop 1 ls) ls) vs

  items_texts : (s : Scheme L) (ls : List Name) (vs : List Value) → map item_text (items_of s ls vs) ≡ item_texts s ls vs
  unfolding items_of item_texts
  items_texts s ls vs =
      map_append item_text (map (λ v. plain (plain_word v)) (cond (leads_label s) (take 1 ls) [])) (value_items (has_brackets s) (cond (leads_label s) (drop 1 ls) ls) vs)
      ∙ (λ i. plain_texts (cond (leads_label s) (take 1 ls) []) i ++ value_texts_lem (has_brackets s) (cond (leads_label s) (drop 1 ls) ls) vs i)

  items_fit : (s : Scheme L) (ls : List Name) (vs : List Value) → all_of is_name ls ≡ true → all_of is_cell_value vs ≡ true → all_of is_item (items_of s ls vs) ≡ true
  unfolding items_of
  items_fit s ls vs h k =
      all_append is_item (map (λ v. plain (plain_word v)) (cond (leads_label s) (take 1 ls) [])) (value_items (has_brackets s) (cond (leads_label s) (drop 1 ls) ls) vs)
      ∙ and_both _ _ (plain_items (cond (leads_label s) (take 1 ls) []) (lead_cells (leads_label s) ls h)) (value_fit (has_brackets s) (cond (leads_label s) (drop 1 ls) ls) vs (rest_names (leads_label s) ls h) k)

  -- they have no places
  items_placeless : (s : Scheme L) (ls : List Name) (vs : List Value) → map placeless_item (items_of s ls vs) ≡ items_of s ls vs
  unfolding items_of
  items_placeless s ls vs =
      map_append placeless_item (map (λ v. plain (plain_word v)) (cond (leads_label s) (take 1 ls) [])) (value_items (has_brackets s) (cond (leads_label s) (drop 1 ls) ls) vs)
      ∙ (λ i. map_plain (cond (leads_label s) (take 1 ls) []) i ++ value_placeless (has_brackets s) (cond (leads_label s) (drop 1 ls) ls) vs i)

  -- the bytes of a row line
  pub row_text_bytes : (s : Scheme L) (k t : Name) (ls : List Name) (vs : List Value)
      → row_text s k t ls vs ≡ 40 ∷ (k ++ 32 ∷ (t ++ (spaced (item_texts s ls vs) ++ 41 ∷ [])))
  unfolding row_text
  row_text_bytes s k t ls vs = simp append_assoc

  row_text_is : (s : Scheme L) (k t : Name) (ls : List Name) (vs : List Value)
      → row_text s k t ls vs ≡ 40 ∷ (k ++ 32 ∷ (t ++ (spaced (map item_text (items_of s ls vs)) ++ 41 ∷ [])))
  row_text_is s k t ls vs = rw (items_texts s ls vs) (row_text_bytes s k t ls vs)

  row_reads : (s : Scheme L) (k t : Name) (ls : List Name) (vs : List Value) → same_name k (ascii "row") ≡ true → is_name t ≡ true → all_of is_name ls ≡ true → all_of is_cell_value vs ≡ true
      → Reads row_parts form (row_text s k t ls vs) (some (plain_word t, items_of s ls vs)) []
  row_reads s k t ls vs e h l m =
      rw (row_text_is s k t ls vs) (form_row k e (rw (items_placeless s ls vs) at (row_form_reads t (items_of s ls vs) h (items_fit s ls vs l m))))

  -- A row line that was written out from its parts is the form of those parts.
  pub row_back : (s : Scheme L) (k t : Name) (ls : List Name) (vs : List Value) → same_name k (ascii "row") ≡ true → is_name t ≡ true → all_of is_name ls ≡ true → all_of is_cell_value vs ≡ true
      → (f : Form) → form_of (row_text s k t ls vs) ≡ some f → row_parts f ≡ some (plain_word t, items_of s ls vs)
  unfolding form_of whole
  row_back s k t ls vs e h l m f = go ((row_reads s k t ls vs e h l m).from 0)
    where
      go : {o : Option (Form × Left)} → Gives row_parts (some (plain_word t, items_of s ls vs)) [] o → ended o ≡ some f → row_parts f ≡ some (plain_word t, items_of s ls vs)
      go (gives p) e = unfold ended in cc

  -- and it is read as a form
  pub row_read : (s : Scheme L) (k t : Name) (ls : List Name) (vs : List Value) → same_name k (ascii "row") ≡ true → is_name t ≡ true → all_of is_name ls ≡ true → all_of is_cell_value vs ≡ true
      → (f : Form) × (form_of (row_text s k t ls vs) ≡ some f)
  unfolding form_of whole
  row_read s k t ls vs e h l m = go ((row_reads s k t ls vs e h l m).from 0)
    where
      go : {o : Option (Form × Left)} → Gives row_parts (some (plain_word t, items_of s ls vs)) [] o → (f : Form) × (ended o ≡ some f)
      go (gives {y} p) = unfold ended in (y, refl)
