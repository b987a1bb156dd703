-- The test `alike?` holds exactly of the documents that are alike: whether two texts are alike can be computed. Assumes
-- nothing.
use Prim.Native.Nat.{suc, zero, ℕ}
use borrow.Author.Tests.{eqb-true}
use lib.Dec.{eqb}
use lib.ListN.{get_elem?, length}
use mathlib.Core.Bool.{Bool, beq, ◌&&◌, ◌||◌, false, true}
use mathlib.Core.List.{List, [], ◌∷◌}
use mathlib.Core.Logic.{◌⊎◌, inl, inr}
use mathlib.Core.Option.{Option, none-ne-some, some-injective, bind, bind-eq-some_iff, none, some}
use mathlib.Core.Path.{◌∙◌, ◌≡◌, ap, refl, subst, subst₂, sym}
use Rattle.document.specs.Check.{Accepted, check}
use Rattle.document.specs.Lookup.{scheme_of}
use Rattle.document.specs.Meaning.{row_meant}
use Rattle.document.specs.Policy.{Policy, Row}
use Rattle.form.proofs.RowBack.{row_back, row_read, row_parts}
use Rattle.form.specs.Form.{Form, Item, attr, cond_role, grant, label, note, purpose, role, row, table, user}
use Rattle.form.specs.FormReader.{form_of}
use Rattle.form.specs.RowText.{keyword_in, label_count}
use Rattle.answer.proofs.AlikeComplete.{ReadParts, alike_as_read, as_row_line, meant_parts, parts_once, read_parts, row_keyword}
use Rattle.answer.proofs.AlikeDocuments.{alike_twins, same_length}
use Rattle.answer.specs.Alike.{Alike, AlikeLines, AlikeRows, RowLine, SameOrFree, alike_rows, differs, done, free, lines_of, no_more, row_of, same, same_line}
use Rattle.answer.specs.AlikeRead.{ReadAlike, SameBut}
use Rattle.answer.specs.AlikeTest.{alike?, both_alike, both_rows, label_texts, lines_alike, row_in_form, same_bytes, same_or_free, same_or_rows, same_row, same_texts}
use Rattle.lists.proofs.Tests.{and_both, and_left, and_right, eqb_self, or_cases, or_left, or_right, true_not_false}
use Rattle.query.specs.QueryForm.{QueryForm, query_of}
use Rattle.text.specs.Amounts.{is_range}
use Rattle.text.specs.Numbers.{Value}
use Rattle.text.specs.Refusal.{Result, accepted, refused}
use Rattle.text.specs.Words.{Word, plain_word}

-- ---- texts and values

same_bytes_lem : (a b : List ℕ) → same_bytes a b ≡ true → a ≡ b
unfolding same_bytes
same_bytes_lem [] [] h = refl
same_bytes_lem [] (b ∷ bs) h = true_not_false h refl
same_bytes_lem (a ∷ cs) [] h = true_not_false h refl
same_bytes_lem (a ∷ cs) (b ∷ bs) h = λ i. eqb-true a b (and_left (eqb a b) _ h) i ∷ same_bytes_lem cs bs (and_right (eqb a b) _ h) i

bytes_same : (a : List ℕ) → same_bytes a a ≡ true
unfolding same_bytes
bytes_same [] = refl
bytes_same (a ∷ cs) = and_both (eqb a a) _ (eqb_self a) (bytes_same cs)

same_texts_lem : (s t : List (List ℕ)) → same_texts s t ≡ true → s ≡ t
unfolding same_texts
same_texts_lem [] [] h = refl
same_texts_lem [] (t ∷ ts) h = true_not_false h refl
same_texts_lem (s ∷ ss) [] h = true_not_false h refl
same_texts_lem (s ∷ ss) (t ∷ ts) h = λ i. same_bytes_lem s t (and_left (same_bytes s t) _ h) i ∷ same_texts_lem ss ts (and_right (same_bytes s t) _ h) i

texts_same : (s : List (List ℕ)) → same_texts s s ≡ true
unfolding same_texts
texts_same [] = refl
texts_same (s ∷ ss) = and_both (same_bytes s s) _ (bytes_same s) (texts_same ss)

same_bools : (a b : Bool) → beq a b ≡ true → a ≡ b
same_bools true true h = refl
same_bools true false h = true_not_false h refl
same_bools false true h = true_not_false h refl
same_bools false false h = refl

bools_same : (a b : Bool) → a ≡ b → beq a b ≡ true
bools_same true b e = ap (beq true) (sym e)
bools_same false b e = ap (beq false) (sym e)

module _ (f : ℕ → Bool) where
  values_read : (c : ℕ) (vs ws : List Value) → same_or_free f c vs ws ≡ true → SameOrFree f c vs ws
  unfolding same_or_free
  values_read c [] [] h = done
  values_read c [] (w ∷ ws) h = true_not_false h refl
  values_read c (v ∷ vs) [] h = true_not_false h refl
  values_read c (v ∷ vs) (w ∷ ws) h =
      let kept : Bool = f c && beq (is_range v) (is_range w) in
      let rest : SameOrFree f (suc c) vs ws = values_read (suc c) vs ws (and_right (same_bytes v w || kept) _ h) in
      or_cases (same_bytes v w) kept (and_left (same_bytes v w || kept) _ h)
      (λ e. subst (λ (u : Value). SameOrFree f c (v ∷ vs) (u ∷ ws)) (same_bytes_lem v w e) (same v rest))
      (λ e. differs v w (and_left (f c) _ e) (same_bools (is_range v) (is_range w) (and_right (f c) _ e)) rest)

  values_tested : {c : ℕ} {vs ws : List Value} → SameOrFree f c vs ws → same_or_free f c vs ws ≡ true
  unfolding same_or_free
  values_tested done = refl
  values_tested {c} (same v r) = and_both (same_bytes v v || (f c && beq (is_range v) (is_range v))) _ (or_left (same_bytes v v) _ (bytes_same v)) (values_tested r)
  values_tested {c} (differs v w e k r) =
      and_both (same_bytes v w || (f c && beq (is_range v) (is_range w))) _ (or_right (same_bytes v w) _ (and_both (f c) _ e (bools_same (is_range v) (is_range w) k))) (values_tested r)

-- ---- row lines

-- a form is a row, or is taken for none
row_or_none : (f : Form) → ((t : Word) × (is : List Item) × (f ≡ row t is)) ⊎ ((row_in_form f ≡ none) × (row_parts f ≡ none))
unfolding row_in_form row_parts
row_or_none (purpose n p) = inr (refl, refl)
row_or_none (role n p) = inr (refl, refl)
row_or_none (attr r a k) = inr (refl, refl)
row_or_none (user u r gs) = inr (refl, refl)
row_or_none (cond_role c r x) = inr (refl, refl)
row_or_none (grant p c) = inr (refl, refl)
row_or_none (label l ps qs) = inr (refl, refl)
row_or_none (table t s cs) = inr (refl, refl)
row_or_none (note t n) = inr (refl, refl)
row_or_none (row t is) = inl (t, is, refl)

-- a line that the test takes for a row is read as that row
is_row_lem : (l : List ℕ) (r : Word × List Item) → bind (form_of l) row_in_form ≡ some r → form_of l ≡ some (row r.0 r.1)
unfolding row_in_form
is_row_lem l r e =
    let x = (bind-eq-some_iff (form_of l) row_in_form).0 e in
    x.1 ∙ ap some (go (row_or_none x.0) x.2)
  where
    go : {f : Form} → ((t : Word) × (is : List Item) × (f ≡ row t is)) ⊎ ((row_in_form f ≡ none) × (row_parts f ≡ none)) → row_in_form f ≡ some r → f ≡ row r.0 r.1
    go (inl x) e = x.2 ∙ (let p = some-injective _ _ (sym (ap row_in_form x.2) ∙ e) in λ i. row (p i).0 (p i).1)
    go (inr x) e = absurd (none-ne-some _ (sym x.0 ∙ e))

-- a line that was written out from its parts is read as a row
row_line : {d : Policy} {l : List ℕ} → RowLine d l → (t : Word) × (is : List Item) × (form_of l ≡ some (row t is))
row_line {d} {l} r =
    let s = scheme_of d (plain_word r.table) in
    let f = row_read s r.keyword r.table r.labels r.values r.is_row r.is_table r.are_labels r.are_values in
    go f.0 (ap form_of r.written ∙ f.1) (row_back s r.keyword r.table r.labels r.values r.is_row r.is_table r.are_labels r.are_values f.0 f.1) (row_or_none f.0)
  where
    go : (f : Form) {x : Word × List Item} → form_of l ≡ some f → row_parts f ≡ some x
        → ((t : Word) × (is : List Item) × (f ≡ row t is)) ⊎ ((row_in_form f ≡ none) × (row_parts f ≡ none)) → (t : Word) × (is : List Item) × (form_of l ≡ some (row t is))
    go f e p (inl x) = (x.0, x.1, e ∙ ap some x.2)
    go f e p (inr x) = absurd (none-ne-some _ (sym x.1 ∙ p))

module _ {d : Policy} {q : Option QueryForm} {l m : List ℕ} (a : AlikeRows d q l m) where
  abbrev first_line : RowLine d l
  first_line = record {
    keyword = a.keyword;
    table = a.table;
    labels = a.labels;
    values = a.values;
    is_row = a.is_row;
    is_table = a.is_table;
    are_labels = a.are_labels;
    are_values = a.are_values;
    enough_labels = a.enough_labels;
    written = a.written;
  }

  abbrev second_line : RowLine d m
  second_line = record {
    keyword = a.keyword;
    table = a.table;
    labels = a.labels;
    values = a.values';
    is_row = a.is_row;
    is_table = a.is_table;
    are_labels = a.are_labels;
    are_values = a.are_values';
    enough_labels = a.enough_labels ∙ ap (label_count (scheme_of d (plain_word a.table))) (same_length a.alike);
    written = a.written';
  }

-- ---- what the test says is so

module _ (d e : Policy) (q : Option QueryForm) where
  rows_read : (l m : List ℕ) (r s : Option (Word × List Item)) → bind (form_of l) row_in_form ≡ r → bind (form_of m) row_in_form ≡ s → keyword_in l ≡ keyword_in m → both_rows d e q r s ≡ true → ReadAlike d e q l m
  unfolding both_rows same_row label_texts
  rows_read l m none s f g k h = true_not_false h refl
  rows_read l m (some r) none f g k h = true_not_false h refl
  rows_read l m (some (t, is)) (some (u, js)) f g k h =
      let h1 = and_left (same_bytes t.bytes u.bytes && same_texts (label_texts d t is) (label_texts e u js)) _ h in
      record {
        table = t;
        table' = u;
        items = is;
        items' = js;
        reads = is_row_lem l (t, is) f;
        reads' = is_row_lem m (u, js) g;
        same_keyword = k;
        same_table = same_bytes_lem _ _ (and_left (same_bytes t.bytes u.bytes) _ h1);
        same_labels = same_texts_lem _ _ (and_right (same_bytes t.bytes u.bytes) _ h1);
        alike = values_read _ 0 _ _ (and_right (same_bytes t.bytes u.bytes && same_texts (label_texts d t is) (label_texts e u js)) _ h);
      }

  line_read : (l m : List ℕ) (b : Bool) → same_bytes l m ≡ b → same_or_rows d e q b l m ≡ true → (l ≡ m) ⊎ ReadAlike d e q l m
  unfolding same_or_rows
  line_read l m true s h = inl (same_bytes_lem l m s)
  line_read l m false s h =
      let k = same_bytes_lem _ _ (and_left (same_bytes (keyword_in l) (keyword_in m)) _ h) in
      inr (rows_read l m _ _ refl refl k (and_right (same_bytes (keyword_in l) (keyword_in m)) _ h))

  lines_read_lem : (ls ms : List (List ℕ)) → lines_alike d e q ls ms ≡ true → SameBut (ReadAlike d e q) ls ms
  unfolding lines_alike
  lines_read_lem [] [] h = record { equally_many = refl; each = λ i l m x y. absurd (none-ne-some _ x) }
  lines_read_lem [] (m ∷ ms) h = true_not_false h refl
  lines_read_lem (l ∷ ls) [] h = true_not_false h refl
  lines_read_lem (l ∷ ls) (m ∷ ms) h =
      let rest : SameBut (ReadAlike d e q) ls ms = lines_read_lem ls ms (and_right (same_or_rows d e q (same_bytes l m) l m) _ h) in
      record { equally_many = ap suc rest.equally_many; each = go (line_read l m (same_bytes l m) refl (and_left (same_or_rows d e q (same_bytes l m) l m) _ h)) rest }
    where
      go : (l ≡ m) ⊎ ReadAlike d e q l m → SameBut (ReadAlike d e q) ls ms
          → (i : ℕ) (x y : List ℕ) → get_elem? (l ∷ ls) i ≡ some x → get_elem? (m ∷ ms) i ≡ some y → (x ≡ y) ⊎ ReadAlike d e q x y
      go first rest zero x y f g = subst₂ (λ (u v : List ℕ). (u ≡ v) ⊎ ReadAlike d e q u v) (some-injective _ _ f) (some-injective _ _ g) first
      go first rest (suc i) x y f g = rest.each i x y f g

-- Documents of which the test holds are alike.
pub alike_if_tested : (text a b : List ℕ) → alike? text a b ≡ true → Alike text a b
unfolding alike? both_alike
alike_if_tested text a b h = go (check a) refl (check b) refl h
  where
    go : (r : Result Accepted) → check a ≡ r → (s : Result Accepted) → check b ≡ s → both_alike (query_of text) (lines_of a) (lines_of b) r s ≡ true → Alike text a b
    go (refused r) f s g h = true_not_false h refl
    go (accepted x) f (refused s) g h = true_not_false h refl
    go (accepted x) f (accepted y) g h = alike_as_read text a b x y f g (lines_read_lem x.doc.policy y.doc.policy (query_of text) (lines_of a) (lines_of b) h)

-- ---- what is so, the test says

-- each of the lines that is a row is written out from its parts
abbrev RowsWritten : Policy → List (List ℕ) → Type 0
RowsWritten d ls = (i : ℕ) (l : List ℕ) → get_elem? ls i ≡ some l → (t : Word) (is : List Item) → form_of l ≡ some (row t is) → ReadParts d l t is

module _ (d : Policy) (q : Option QueryForm) where
  rows_tested : {l m : List ℕ} (a : AlikeRows d q l m) (t : Word) (is : List Item) → ReadParts d l t is → (u : Word) (js : List Item) → ReadParts d m u js
      → same_row d d q (t, is) (u, js) ≡ true
  unfolding same_row label_texts
  rows_tested {l} {m} a t is r u js s =
      let p = parts_once d l (as_row_line d l t is r) (first_line a) in
      let p' = parts_once d m (as_row_line d m u js s) (second_line a) in
      let means : row_meant d t is ≡ row_of d a.table a.labels a.values = meant_parts d t is ∙ (λ i. row_of d (p.0 i) (p.1 i) (p.2 i)) in
      and_both (same_bytes t.bytes u.bytes && same_texts (label_texts d t is) (label_texts d u js)) _
      (and_both (same_bytes t.bytes u.bytes) _
      ((λ i. same_bytes (p.0 i) (p'.0 i)) ∙ bytes_same a.table)
      ((λ i. same_texts (p.1 i) (p'.1 i)) ∙ texts_same a.labels))
      ((λ i. same_or_free (free d q (means i)) 0 (p.2 i) (p'.2 i)) ∙ values_tested _ a.alike)

  line_tested : {l m : List ℕ} → AlikeRows d q l m → ((t : Word) (is : List Item) → form_of l ≡ some (row t is) → ReadParts d l t is)
      → ((t : Word) (is : List Item) → form_of m ≡ some (row t is) → ReadParts d m t is) → (b : Bool) → same_or_rows d d q b l m ≡ true
  unfolding same_or_rows
  line_tested a r s true = refl
  line_tested {l} {m} a r s false =
      let x = row_line (first_line a) in
      let y = row_line (second_line a) in
      and_both (same_bytes (keyword_in l) (keyword_in m)) _ one_keyword (go x.0 x.1 x.2 y.0 y.1 y.2)
    where
      one_keyword : same_bytes (keyword_in l) (keyword_in m) ≡ true
      one_keyword = ap (λ k. same_bytes k (keyword_in m)) (sym (row_keyword (first_line a))) ∙ ap (same_bytes a.keyword) (sym (row_keyword (second_line a))) ∙ bytes_same a.keyword

      go : (t : Word) (is : List Item) → form_of l ≡ some (row t is) → (u : Word) (js : List Item) → form_of m ≡ some (row u js) → both_rows d d q (bind (form_of l) row_in_form) (bind (form_of m) row_in_form) ≡ true
      go t is f u js g = unfold both_rows bind row_in_form in (λ i. both_rows d d q (bind (f i) row_in_form) (bind (g i) row_in_form)) ∙ rows_tested a t is (r t is f) u js (s u js g)

  lines_tested : {ls ms : List (List ℕ)} → AlikeLines d q ls ms → RowsWritten d ls → RowsWritten d ms → lines_alike d d q ls ms ≡ true
  unfolding lines_alike same_or_rows
  lines_tested no_more r s = refl
  lines_tested (same_line l {ls} {ms} x) r s =
      and_both (same_or_rows d d q (same_bytes l l) l l) _ (ap (λ b. same_or_rows d d q b l l) (bytes_same l))
      (lines_tested x (λ i. r (suc i)) (λ i. s (suc i)))
  lines_tested (alike_rows {l} {m} {ls} {ms} a x) r s =
      and_both (same_or_rows d d q (same_bytes l m) l m) _ (line_tested a (r 0 l refl) (s 0 m refl) (same_bytes l m))
      (lines_tested x (λ i. r (suc i)) (λ i. s (suc i)))

-- The test holds of documents that are alike.
pub tested_if_alike : (text a b : List ℕ) → Alike text a b → alike? text a b ≡ true
unfolding alike? both_alike
tested_if_alike text a b x =
    let d : Policy = x.first.doc.policy in
    let one : x.second.doc.policy ≡ d = (alike_twins text a b x).policy in
    rw (x.accepts, x.accepts') (
    ap (λ (e : Policy). lines_alike d e (query_of text) (lines_of a) (lines_of b)) one
    ∙ lines_tested d (query_of text) x.lines (read_parts a x.first x.accepts)
    (subst (λ (e : Policy). RowsWritten e (lines_of b)) one (read_parts b x.second x.accepts')))
