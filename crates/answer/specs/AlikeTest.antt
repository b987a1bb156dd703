-- Meaning: whether two documents are alike for a query, as a test that computes. That it holds exactly when they are `Alike` is proved
-- (proofs/AlikeDecided), and so it can be tried on examples, both ways (proofs/AlikeWitnesses).
use Rattle.std.specs.Prelude.{suc, ℕ, eqb, Bool, ◌&&◌, ◌||◌, false, true, List, [], ◌∷◌, map}
use Rattle.std.specs.Bool.{beq}
use Rattle.std.proofs.Math.Option.{Option, bind, none, some}
use Rattle.document.specs.Check.{Accepted, check}
use Rattle.document.specs.Lookup.{scheme_of}
use Rattle.document.specs.Meaning.{row_meant}
use Rattle.document.specs.NameFaults.{row_labels}
use Rattle.document.specs.Policy.{Policy}
use Rattle.form.specs.Form.{Form, Item, attr, cond_role, grant, label, note, purpose, role, row, table, user}
use Rattle.form.specs.FormReader.{form_of}
use Rattle.form.specs.RowText.{keyword_in}
use Rattle.answer.specs.Alike.{free, lines_of}
use Rattle.query.specs.QueryForm.{QueryForm, query_of}
use Rattle.text.specs.Amounts.{is_range}
use Rattle.text.specs.Numbers.{Value}
use Rattle.text.specs.Refusal.{Result, accepted, refused}
use Rattle.text.specs.Words.{Word}

-- two texts are the same, byte for byte
unfoldable pub same_bytes : List ℕ → List ℕ → Bool
same_bytes [] [] = true
same_bytes [] (b ∷ bs) = false
same_bytes (a ∷ cs) [] = false
same_bytes (a ∷ cs) (b ∷ bs) = eqb a b && same_bytes cs bs

-- two lists of texts are the same
unfoldable pub same_texts : List (List ℕ) → List (List ℕ) → Bool
same_texts [] [] = true
same_texts [] (t ∷ ts) = false
same_texts (s ∷ ss) [] = false
same_texts (s ∷ ss) (t ∷ ts) = same_bytes s t && same_texts ss ts

-- each value, the first being that of column c, is the same in both lists or free to differ, both being ranges or neither
unfoldable pub same_or_free : (ℕ → Bool) → ℕ → List Value → List Value → Bool
same_or_free f c [] [] = true
same_or_free f c [] (w ∷ ws) = false
same_or_free f c (v ∷ vs) [] = false
same_or_free f c (v ∷ vs) (w ∷ ws) = (same_bytes v w || (f c && beq (is_range v) (is_range w))) && same_or_free f (suc c) vs ws

-- the table and the items of a row form
unfoldable pub row_in_form : Form → Option (Word × List Item)
row_in_form (purpose n p) = none
row_in_form (role n p) = none
row_in_form (attr r a k) = none
row_in_form (user u r gs) = none
row_in_form (cond_role c r x) = none
row_in_form (grant p c) = none
row_in_form (label l ps qs) = none
row_in_form (table t s cs) = none
row_in_form (note t n) = none
row_in_form (row t is) = some (t, is)

-- the bytes of the labels that a row of these items uses
unfoldable pub label_texts : Policy → Word → List Item → List (List ℕ)
label_texts d t is = map (λ (w : Word). w.bytes) (row_labels (scheme_of d t) is)

module _ (d e : Policy) (q : Option QueryForm) where
  -- two rows, of documents with the policies d and e: one table, the same labels, and values that are the same or free
  unfoldable pub same_row : Word × List Item → Word × List Item → Bool
  same_row (t, is) (u, js) =
      same_bytes t.bytes u.bytes
      && same_texts (label_texts d t is) (label_texts e u js)
      && same_or_free (free d q (row_meant d t is)) 0 (row_meant d t is).values (row_meant e u js).values

  -- both lines are read as rows, and these are alike
  unfoldable pub both_rows : Option (Word × List Item) → Option (Word × List Item) → Bool
  both_rows none s = false
  both_rows (some r) none = false
  both_rows (some r) (some s) = same_row r s

  -- two lines, which are the same or not: if not, both are rows that are alike, with one keyword
  unfoldable pub same_or_rows : (same : Bool) → List ℕ → List ℕ → Bool
  same_or_rows true l m = true
  same_or_rows false l m = same_bytes (keyword_in l) (keyword_in m) && both_rows (bind (form_of l) row_in_form) (bind (form_of m) row_in_form)

  -- equally many lines, and each the same in both or a row that is alike
  unfoldable pub lines_alike : List (List ℕ) → List (List ℕ) → Bool
  lines_alike [] [] = true
  lines_alike [] (m ∷ ms) = false
  lines_alike (l ∷ ls) [] = false
  lines_alike (l ∷ ls) (m ∷ ms) = same_or_rows (same_bytes l m) l m && lines_alike ls ms

-- both documents are accepted, and their lines are alike
unfoldable pub both_alike : Option QueryForm → (a b : List (List ℕ)) → Result Accepted → Result Accepted → Bool
both_alike q a b (refused r) y = false
both_alike q a b (accepted x) (refused r) = false
both_alike q a b (accepted x) (accepted y) = lines_alike x.doc.policy y.doc.policy q a b

-- the documents a and b are alike for the query text
unfoldable pub alike? : (text a b : List ℕ) → Bool
alike? text a b = both_alike (query_of text) (lines_of a) (lines_of b) (check a) (check b)
