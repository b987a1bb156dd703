-- Relative to `free`, Alike misses no pair of documents: every accepted row line is written out from its parts, in one way
-- only, and documents whose lines are the same, or are row lines whose parts differ in free values only, are alike. How wide
-- `free` is, these theorems leave open: pairs that are alike and pairs that are not pin it (AlikeWitnesses). Assumes nothing.
use Prim.Native.Nat.{◌+◌, suc, zero, ℕ}
use lib.ListN.{get_elem?, length}
use mathlib.Core.List.{List, [], ◌∷◌, map}
use mathlib.Core.Logic.{◌⊎◌, inl, inr}
use mathlib.Core.Option.{Option, none-ne-some, some-injective, none, some}
use mathlib.Core.Path.{◌∙◌, ◌≡◌, ap, refl, subst, sym}
use native.Mathlib.Omega.{arith}
use Rattle.answer.specs.Alike.{Alike, AlikeLines, AlikeRows, RowLine, SameOrFree, alike_rows, free, lines_of, no_more, row_of, same_line}
use Rattle.answer.specs.AlikeRead.{PartsAlike, ReadAlike, SameBut}
use Rattle.document.proofs.Accepting.{check_accepted, last_accepted, last_empty, line_accepted, more_accepted}
use Rattle.document.proofs.Kept.{Kept, kept_from, kept_scheme}
use Rattle.document.proofs.RowMeaning.{bytes_back, labels_back, row_adds, values_back}
use Rattle.document.proofs.RowsWritten.{WrittenFrom, bytes_of, row_meant_parts, row_shaped}
use Rattle.document.specs.Check.{Accepted, check, check_from, check_line}
use Rattle.document.specs.Lookup.{label_of, scheme_of, table_of}
use Rattle.document.specs.Meaning.{add, define, row_meant}
use Rattle.document.specs.NameFaults.{row_labels, unknown}
use Rattle.document.specs.Policy.{Doc, Policy, Row, empty_doc}
use Rattle.document.specs.ValueFaults.{misfit, row_values}
use Rattle.form.proofs.RowBack.{items_of, row_back, row_read}
use Rattle.form.proofs.RowWritten.{row_written, row_text_keyword}
use Rattle.form.specs.Form.{Item, Scheme, row}
use Rattle.form.specs.FormReader.{form_of}
use Rattle.form.specs.RowText.{keyword_in, label_count, row_text}
use Rattle.lists.proofs.ListLaws.{map_map}
use Rattle.lists.specs.Lists.{or_zero}
use Rattle.query.specs.QueryForm.{QueryForm, query_of}
use Rattle.text.proofs.OffendingLaws.{leftmost_head, unless_none}
use Rattle.text.specs.Refusal.{accepted}
use Rattle.text.specs.Words.{Word, is_called, plain_word}

-- ---- every accepted row line has its parts

-- the parts of a row line as it is read: its table, the labels that it uses and the values of the row that it means
abbrev pub ReadParts : Policy → List ℕ → Word → List Item → Type 0
ReadParts d l t is = WrittenFrom (scheme_of d t) l t.bytes (bytes_of (row_labels (scheme_of d t) is)) (row_meant d t is).values

pub scheme_plain : (d : Policy) (t : Word) → scheme_of d t ≡ scheme_of d (plain_word t.bytes)
unfolding scheme_of table_of is_called plain_word
scheme_plain d t = refl

abbrev pub as_row_line : (d : Policy) (l : List ℕ) (t : Word) (is : List Item) → ReadParts d l t is → RowLine d l
as_row_line d l t is w = record {
  keyword = keyword_in l;
  table = t.bytes;
  labels = bytes_of (row_labels (scheme_of d t) is);
  values = (row_meant d t is).values;
  is_row = w.is_row;
  is_table = w.is_table;
  are_labels = w.are_labels;
  are_values = w.are_values;
  enough_labels = w.enough_labels ∙ ap (λ (s : Scheme ℕ). label_count s (length (row_meant d t is).values)) (scheme_plain d t);
  written = w.written ∙ ap (λ (s : Scheme ℕ). row_text s (keyword_in l) t.bytes (bytes_of (row_labels (scheme_of d t) is)) (row_meant d t is).values) (scheme_plain d t);
}

-- an accepted line that is a row, under the policy D of the whole document
line_parts : (d e : Doc) (D : Policy) (l : List ℕ) → Kept d.policy D → check_line d l ≡ accepted e → (t : Word) (is : List Item) → form_of l ≡ some (row t is) → ReadParts D l t is
unfolding unknown
line_parts d e D l k h t is f =
    let x = line_accepted d l e h in
    let is_row_lem : x.form ≡ row t is = some-injective _ _ (sym x.is ∙ f) in
    let knows : unknown d.policy (row t is) ≡ none = ap (unknown d.policy) (sym is_row_lem) ∙ x.knows in
    let v = row_shaped d.policy t is (ap (misfit d.policy) (sym is_row_lem) ∙ x.fits) in
    let scheme : scheme_of D t ≡ scheme_of d.policy t = kept_scheme d.policy D k t (unless_none _ t (leftmost_head _ _ knows)) in
    row_meant_parts D l t is f v.0 (ap (λ (s : Scheme ℕ). row_values s is) scheme ∙ v.1)

parts_from : (ps : List (List ℕ)) (d : Doc) (n at : ℕ) (p : List ℕ) (A : Accepted) → check_from d n at p ps ≡ accepted A
    → (i : ℕ) (l : List ℕ) → get_elem? (p ∷ ps) i ≡ some l → (t : Word) (is : List Item) → form_of l ≡ some (row t is) → ReadParts A.doc.policy l t is
parts_from [] d n at p A h zero l e t is f = absurd (omega (arith, last_empty d n at p A h, ap length (some-injective _ _ e ∙ (row_written l t is f).written)))
parts_from [] d n at p A h (suc i) l e t is f = absurd (none-ne-some _ e)
parts_from (p' ∷ ps) d n at p A h zero l e t is f =
    let x = more_accepted d n at p p' ps A h in
    line_parts d x.0 A.doc.policy l (kept_from (p' ∷ ps) d n at p A h) (ap (check_line d) (sym (some-injective _ _ e)) ∙ x.1) t is f
parts_from (p' ∷ ps) d n at p A h (suc i) l e t is f =
    let x = more_accepted d n at p p' ps A h in
    parts_from ps x.0 (n + 1) (at + length p + 1) p' A x.2 i l e t is f

pub read_parts : (a : List ℕ) (x : Accepted) → check a ≡ accepted x → (i : ℕ) (l : List ℕ) → get_elem? (lines_of a) i ≡ some l
    → (t : Word) (is : List Item) → form_of l ≡ some (row t is) → ReadParts x.doc.policy l t is
unfolding lines_of
read_parts a x h i l e t is f = parts_from _ empty_doc 0 0 _ x (check_accepted a x h).1 i l e t is f

-- Every line of an accepted document that is read as a row is written out from its parts.
pub rows_written : (a : List ℕ) (x : Accepted) → check a ≡ accepted x → (i : ℕ) (l : List ℕ) → get_elem? (lines_of a) i ≡ some l
    → (t : Word) (is : List Item) → form_of l ≡ some (row t is) → RowLine x.doc.policy l
rows_written a x h i l e t is f = as_row_line x.doc.policy l t is (read_parts a x h i l e t is f)

-- the keyword of a row line is the line's own
pub row_keyword : {d : Policy} {l : List ℕ} (r : RowLine d l) → r.keyword ≡ keyword_in l
row_keyword {d} {l} r = sym (row_text_keyword (scheme_of d (plain_word r.table)) r.keyword r.table r.labels r.values r.is_row) ∙ ap keyword_in (sym r.written)

-- A line is written out from its keyword in one way only,
pub keyword_once : (d : Policy) (l : List ℕ) (r s : RowLine d l) → r.keyword ≡ s.keyword
keyword_once d l r s = row_keyword r ∙ sym (row_keyword s)

-- and so it is from its other parts.
pub parts_once : (d : Policy) (l : List ℕ) (r s : RowLine d l) → (r.table ≡ s.table) × (r.labels ≡ s.labels) × (r.values ≡ s.values)
unfolding plain_word
parts_once d l r s =
    let u : Scheme ℕ = scheme_of d (plain_word r.table) in
    let v : Scheme ℕ = scheme_of d (plain_word s.table) in
    let f = row_read u r.keyword r.table r.labels r.values r.is_row r.is_table r.are_labels r.are_values in
    let p = row_back u r.keyword r.table r.labels r.values r.is_row r.is_table r.are_labels r.are_values f.0 f.1 in
    let q = row_back v s.keyword s.table s.labels s.values s.is_row s.is_table s.are_labels s.are_values f.0 (ap form_of (sym s.written ∙ r.written) ∙ f.1) in
    let e : ◌≡◌ {A = Word × List Item} (plain_word r.table, items_of u r.labels r.values) (plain_word s.table, items_of v s.labels s.values) = some-injective _ _ (sym p ∙ q) in
    let scheme : u ≡ v = ap (λ (x : Word × List Item). scheme_of d x.0) e in
    let ls : map plain_word r.labels ≡ map plain_word s.labels =
    sym (labels_back u r.labels r.values r.enough_labels r.are_labels) ∙ (λ i. row_labels (scheme i) (e i).1) ∙ labels_back v s.labels s.values s.enough_labels s.are_labels in
    let vs : some (map plain_word r.values) ≡ some (map plain_word s.values) =
    sym (values_back u r.labels r.values r.enough_labels r.are_labels) ∙ (λ i. row_values (scheme i) (e i).1) ∙ values_back v s.labels s.values s.enough_labels s.are_labels in (
      ap (λ (x : Word × List Item). x.0.bytes) e,
      sym (bytes_back r.labels) ∙ ap bytes_of ls ∙ bytes_back s.labels,
      sym (bytes_back r.values) ∙ ap bytes_of (some-injective _ _ vs) ∙ bytes_back s.values,
    )

-- ---- documents that differ in free values only

rest_same : {R : List ℕ → List ℕ → Type 0} {l m : List ℕ} {ls ms : List (List ℕ)} → SameBut R (l ∷ ls) (m ∷ ms) → SameBut R ls ms
rest_same {R} {l} {m} {ls} {ms} s = record { equally_many = omega (arith, s.equally_many); each = λ i x y e f. s.each (suc i) x y e f }

-- a row line defines nothing
row_keeps : {D : Policy} {l : List ℕ} → RowLine D l → (d e : Doc) → check_line d l ≡ accepted e → e.policy ≡ d.policy
unfolding add
row_keeps {D} {l} r d e h =
    let x = line_accepted d l e h in
    let p = row_back (scheme_of D (plain_word r.table)) r.keyword r.table r.labels r.values r.is_row r.is_table r.are_labels r.are_values x.form (ap form_of (sym r.written) ∙ x.is) in
    ap (λ (y : Doc). y.policy) x.added ∙ (row_adds d.policy x.form _ _ p).0

module _ {D E : Policy} {q : Option QueryForm} where
  line_policy : {l m : List ℕ} → (l ≡ m) ⊎ PartsAlike D E q l m → (d e d' e' : Doc) → d.policy ≡ e.policy → check_line d l ≡ accepted d' → check_line e m ≡ accepted e' → d'.policy ≡ e'.policy
  unfolding add
  line_policy {l} {m} (inl p) d e d' e' k h g =
      let x = line_accepted d l d' h in
      let y = line_accepted e m e' g in
      let f : x.form ≡ y.form = some-injective _ _ (sym x.is ∙ ap form_of p ∙ y.is) in
      ap (λ (z : Doc). z.policy) x.added ∙ (λ i. define (k i) (f i)) ∙ ap (λ (z : Doc). z.policy) (sym y.added)
  line_policy (inr w) d e d' e' k h g = row_keeps w.first d d' h ∙ k ∙ sym (row_keeps w.second e e' g)

  -- both documents have one policy
  one_policy : (ps qs : List (List ℕ)) (p p' : List ℕ) → SameBut (PartsAlike D E q) (p ∷ ps) (p' ∷ qs) → (d e : Doc) → d.policy ≡ e.policy → (n n' at at' : ℕ) (A B : Accepted)
      → check_from d n at p ps ≡ accepted A → check_from e n' at' p' qs ≡ accepted B → A.doc.policy ≡ B.doc.policy
  one_policy [] [] p p' s d e k n n' at at' A B h g = ap (λ (z : Doc). z.policy) (last_accepted d n at p A h) ∙ k ∙ ap (λ (z : Doc). z.policy) (sym (last_accepted e n' at' p' B g))
  one_policy [] (x ∷ qs) p p' s d e k n n' at at' A B h g = absurd (omega (arith, s.equally_many))
  one_policy (x ∷ ps) [] p p' s d e k n n' at at' A B h g = absurd (omega (arith, s.equally_many))
  one_policy (p₂ ∷ ps) (q₂ ∷ qs) p p' s d e k n n' at at' A B h g =
      let x = more_accepted d n at p p₂ ps A h in
      let y = more_accepted e n' at' p' q₂ qs B g in
      one_policy ps qs p₂ q₂ (rest_same s) x.0 y.0 (line_policy (s.each 0 p p' refl refl) d e x.0 y.0 k x.1 y.1) _ _ _ _ A B x.2 y.2

  -- so row lines whose parts are alike are alike
  parts_rows : D ≡ E → {l m : List ℕ} → PartsAlike D E q l m → AlikeRows D q l m
  parts_rows p w = record {
    keyword = w.first.keyword;
    table = w.first.table;
    labels = w.first.labels;
    values = w.first.values;
    values' = w.second.values;
    is_row = w.first.is_row;
    is_table = w.first.is_table;
    are_labels = w.first.are_labels;
    are_values = w.first.are_values;
    are_values' = w.second.are_values;
    enough_labels = w.first.enough_labels;
    written = w.first.written;
    written' = w.second.written ∙ sym (λ i. row_text (scheme_of (p i) (plain_word (w.same_table i))) (w.same_keyword i) (w.same_table i) (w.same_labels i) w.second.values);
    alike = w.alike;
  }

  parts_lines : D ≡ E → (ls ms : List (List ℕ)) → SameBut (PartsAlike D E q) ls ms → AlikeLines D q ls ms
  parts_lines p [] [] s = no_more
  parts_lines p [] (m ∷ ms) s = absurd (omega (arith, s.equally_many))
  parts_lines p (l ∷ ls) [] s = absurd (omega (arith, s.equally_many))
  parts_lines p (l ∷ ls) (m ∷ ms) s = go (s.each 0 l m refl refl) (parts_lines p ls ms (rest_same s))
    where
      go : (l ≡ m) ⊎ PartsAlike D E q l m → AlikeLines D q ls ms → AlikeLines D q (l ∷ ls) (m ∷ ms)
      go (inl e) r = subst (λ (k : List ℕ). AlikeLines D q (l ∷ ls) (k ∷ ms)) e (same_line l r)
      go (inr w) r = alike_rows (parts_rows p w) r

-- Two accepted documents are alike for a query if they have equally many lines and each line is the same, or both are row
-- lines whose parts are alike.
pub alike_complete : (text a b : List ℕ) (x y : Accepted) → check a ≡ accepted x → check b ≡ accepted y
    → SameBut (PartsAlike x.doc.policy y.doc.policy (query_of text)) (lines_of a) (lines_of b) → Alike text a b
unfolding lines_of
alike_complete text a b x y h g s =
    let p : x.doc.policy ≡ y.doc.policy = one_policy _ _ _ _ s empty_doc empty_doc refl 0 0 0 0 x y (check_accepted a x h).1 (check_accepted b y g).1 in
    record { first = x; second = y; accepts = h; accepts' = g; lines = parts_lines p (lines_of a) (lines_of b) s }

-- ---- the same of lines as they are read

-- the row that a row form means is the row of its parts
pub meant_parts : (d : Policy) (t : Word) (is : List Item) → row_meant d t is ≡ row_of d t.bytes (bytes_of (row_labels (scheme_of d t) is)) (row_meant d t is).values
unfolding row_meant row_of table_of label_of is_called plain_word
meant_parts d t is = λ i. record { table = (row_meant d t is).table; values = (row_meant d t is).values; labels = sym (map_map (λ l. or_zero (label_of d (plain_word l))) (λ w. w.bytes) (row_labels (scheme_of d t) is)) i }

read_rows : (d e : Policy) (q : Option QueryForm) (l m : List ℕ) (w : ReadAlike d e q l m) → ReadParts d l w.table w.items → ReadParts e m w.table' w.items' → PartsAlike d e q l m
read_rows d e q l m w r s = record {
  first = as_row_line d l w.table w.items r;
  second = as_row_line e m w.table' w.items' s;
  same_keyword = w.same_keyword;
  same_table = w.same_table;
  same_labels = w.same_labels;
  alike = subst (λ (x : Row). SameOrFree (free d q x) 0 (row_meant d w.table w.items).values (row_meant e w.table' w.items').values) (meant_parts d w.table w.items) w.alike;
}

-- Two accepted documents are alike for a query if they have equally many lines and each line is the same, or both are read
-- as row lines of one table with the same labels, which mean rows whose values are the same or free to differ.
pub alike_as_read : (text a b : List ℕ) (x y : Accepted) → check a ≡ accepted x → check b ≡ accepted y
    → SameBut (ReadAlike x.doc.policy y.doc.policy (query_of text)) (lines_of a) (lines_of b) → Alike text a b
alike_as_read text a b x y h g s = alike_complete text a b x y h g (record { equally_many = s.equally_many; each = λ i l m e f. go i l m e f (s.each i l m e f) })
  where
    go : (i : ℕ) (l m : List ℕ) → get_elem? (lines_of a) i ≡ some l → get_elem? (lines_of b) i ≡ some m
        → (l ≡ m) ⊎ ReadAlike x.doc.policy y.doc.policy (query_of text) l m → (l ≡ m) ⊎ PartsAlike x.doc.policy y.doc.policy (query_of text) l m
    go i l m e f (inl p) = inl p
    go i l m e f (inr w) = inr (read_rows x.doc.policy y.doc.policy (query_of text) l m w (read_parts a x h i l e w.table w.items w.reads) (read_parts b y g i m f w.table' w.items' w.reads'))
