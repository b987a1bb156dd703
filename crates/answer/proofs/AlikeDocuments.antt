-- Alike texts mean documents of one policy with alike rows: by induction over their lines. Assumes nothing.
use Prim.Native.Nat.{suc, ℕ}
use lib.ListN.{length}
use mathlib.Core.Bool.{Bool, true}
use mathlib.Core.List.{List, [], ◌++◌, ◌∷◌, map}
use mathlib.Core.Logic.{◌⊎◌, inl, inr}
use mathlib.Core.Option.{Option, some-injective, none, some}
use mathlib.Core.Path.{◌∙◌, ◌≡◌, ap, refl, subst, subst₂, sym}
use Rattle.document.proofs.Accepting.{check_accepted, last_accepted, line_accepted, more_accepted}
use Rattle.document.proofs.Kept.{Kept, kept_from, kept_number, kept_scheme}
use Rattle.document.proofs.RowMeaning.{RowKnown, bytes_back, labels_back, row_adds, row_known, values_back}
use Rattle.document.specs.Check.{Accepted, check_from, check_line}
use Rattle.document.specs.Lookup.{label_of, scheme_of, table_of}
use Rattle.document.specs.Meaning.{add, define, row_meant, rows_given}
use Rattle.document.specs.NameFaults.{unknown}
use Rattle.document.specs.Policy.{Doc, Policy, Row, empty_doc}
use Rattle.form.proofs.RowBack.{items_of, row_back, row_parts}
use Rattle.form.specs.Form.{Form, Scheme}
use Rattle.form.specs.FormReader.{form_of}
use Rattle.form.specs.RowText.{label_count}
use Rattle.answer.proofs.Seeing.{RowAlike, RowsAlike, no_rows, row_and}
use Rattle.answer.specs.Alike.{Alike, AlikeLines, AlikeRows, SameOrFree, alike_rows, differs, done, free, lines_of, no_more, row_of, same, same_line}
use Rattle.query.specs.QueryForm.{QueryForm, query_of}
use Rattle.lists.proofs.ListLaws.{map_map}
use Rattle.lists.proofs.Tests.{and_left, and_right}
use Rattle.lists.specs.Lists.{all_of, or_zero, there}
use Rattle.text.specs.Names.{Name, is_name}
use Rattle.text.specs.Numbers.{Value}
use Rattle.text.specs.Refusal.{accepted}
use Rattle.text.specs.Words.{Word, plain_word}

-- ---- one row line, in both documents

-- the row that a row form means is the one that was written out
meant_back : (d : Policy) (t : Name) (ls : List Name) (vs : List Value) → length ls ≡ label_count (scheme_of d (plain_word t)) (length vs) → all_of is_name ls ≡ true
    → row_meant d (plain_word t) (items_of (scheme_of d (plain_word t)) ls vs) ≡ row_of d t ls vs
unfolding row_meant row_of
meant_back d t ls vs e h =
    let s : Scheme ℕ = scheme_of d (plain_word t) in
    rw (values_back s ls vs e h, labels_back s ls vs e h, bytes_back vs, map_map (λ w. or_zero (label_of d w)) plain_word ls)

kept_labels : (d e : Policy) → Kept d e → (ls : List Name) → all_of (λ w. there (label_of d w)) (map plain_word ls) ≡ true
    → map (λ l. or_zero (label_of d (plain_word l))) ls ≡ map (λ l. or_zero (label_of e (plain_word l))) ls
unfolding all_of
kept_labels d e k [] h = refl
kept_labels d e k (l ∷ ls) h =
    let w : Word = plain_word l in
    λ i. kept_number (label_of d w) (label_of e w) (and_left (there (label_of d w)) _ h) (k.labels w) i ∷ kept_labels d e k ls (and_right (there (label_of d w)) _ h) i

-- the row means the same in every policy that keeps what this one knows
row_kept : (d e : Policy) → Kept d e → (t : Name) (ls : List Name) (vs : List Value) → there (table_of d (plain_word t)) ≡ true → all_of (λ w. there (label_of d w)) (map plain_word ls) ≡ true
    → row_of d t ls vs ≡ row_of e t ls vs
unfolding row_of
row_kept d e k t ls vs h g = λ i. record {
  table = kept_number (table_of d (plain_word t)) (table_of e (plain_word t)) h (k.tables (plain_word t)) i;
  values = vs;
  labels = kept_labels d e k ls g i;
}

pub same_length : {f : ℕ → Bool} {c : ℕ} {vs ws : List Value} → SameOrFree f c vs ws → length vs ≡ length ws
same_length done = refl
same_length (same v r) = ap suc (same_length r)
same_length (differs v w e k r) = ap suc (same_length r)

same_values : {f : ℕ → Bool} (c : ℕ) (vs : List Value) → SameOrFree f c vs vs
same_values c [] = done
same_values c (v ∷ vs) = same v (same_values (suc c) vs)

-- two documents of one policy, whose rows are alike for the query under the policy D of the whole document
pub record Twins (D : Policy) (q : Option QueryForm) (d e : Doc) : Type 0 where
  pub policy : e.policy ≡ d.policy
  pub alike : RowsAlike D q d.rows e.rows

module _ {D : Policy} {q : Option QueryForm} where
  rows_behind : {rs ss ts us : List Row} → RowsAlike D q rs ss → RowsAlike D q ts us → RowsAlike D q (rs ++ ts) (ss ++ us)
  rows_behind no_rows b = b
  rows_behind (row_and a as') b = row_and a (rows_behind as' b)

  same_rows : (rs : List Row) → RowsAlike D q rs rs
  same_rows [] = no_rows
  same_rows (r ∷ rs) = row_and (record { table = refl; labels = refl; values = same_values 0 r.values }) (same_rows rs)

  -- one form added to both
  add_same : (d e : Doc) → Twins D q d e → (f : Form) → Twins D q (add d f) (add e f)
  unfolding add
  add_same d e t f = record {
    policy = ap (λ p. define p f) t.policy;
    alike = subst (λ p. RowsAlike D q (d.rows ++ rows_given d.policy f) (e.rows ++ rows_given p f)) (sym t.policy) (rows_behind t.alike (same_rows (rows_given d.policy f)));
  }

  -- a row form added to one, and one with other free values to the other
  add_rows : (d e : Doc) → Twins D q d e → Kept d.policy D → (t : Name) (ls : List Name) (vs ws : List Value) (s : Scheme ℕ)
      → s ≡ scheme_of D (plain_word t) → all_of is_name ls ≡ true → length ls ≡ label_count s (length vs) → SameOrFree (free D q (row_of D t ls vs)) 0 vs ws
      → (f g : Form) → row_parts f ≡ some (plain_word t, items_of s ls vs) → row_parts g ≡ some (plain_word t, items_of s ls ws) → unknown d.policy f ≡ none
      → Twins D q (add d f) (add e g)
  unfolding add RowKnown
  add_rows d e tw k t ls vs ws s is_s fit many_labels al f g ef eg u =
      let p : Policy = d.policy in
      let known_row : RowKnown p (plain_word t) (items_of s ls vs) = row_known p f (plain_word t) (items_of s ls vs) ef u in
      let here : s ≡ scheme_of p (plain_word t) = is_s ∙ kept_scheme p D k (plain_word t) known_row.0 in
      let known_labels : all_of (λ w. there (label_of p w)) (map plain_word ls) ≡ true = rw (← here, labels_back s ls vs many_labels fit) at known_row.1 in
      let meant : row_meant p (plain_word t) (items_of s ls vs) ≡ row_of D t ls vs =
      rw here (meant_back p t ls vs (rw here at many_labels) fit ∙ row_kept p D k t ls vs known_row.0 known_labels) in
      let meant' : row_meant p (plain_word t) (items_of s ls ws) ≡ row_of D t ls ws =
      rw here (meant_back p t ls ws (rw (here, same_length al) at many_labels) fit ∙ row_kept p D k t ls ws known_row.0 known_labels) in
      let a = row_adds p f _ _ ef in
      let b = row_adds p g _ _ eg in
      record {
        policy = ap (λ x. define x g) tw.policy ∙ b.0 ∙ sym a.0;
        alike = subst₂ (RowsAlike D q) (ap (λ l. d.rows ++ l) (ap (λ r. r ∷ []) (sym meant) ∙ sym a.1))
            (ap (λ l. e.rows ++ l) (ap (λ r. r ∷ []) (sym meant') ∙ sym b.1 ∙ ap (λ x. rows_given x g) (sym tw.policy)))
            (rows_behind tw.alike (row_and row_alike no_rows));
      }
    where
      row_alike : RowAlike D q (row_of D t ls vs) (row_of D t ls ws)
      row_alike = unfold row_of in record { table = refl; labels = refl; values = al }

  line_rows : (d e : Doc) → Twins D q d e → Kept d.policy D → {l m : List ℕ} → AlikeRows D q l m → (d' e' : Doc)
      → check_line d l ≡ accepted d' → check_line e m ≡ accepted e' → Twins D q d' e'
  line_rows d e tw k {l} {m} a d' e' h g =
      let s : Scheme ℕ = scheme_of D (plain_word a.table) in
      let x = line_accepted d l d' h in
      let y = line_accepted e m e' g in
      subst₂ (Twins D q) (sym x.added) (sym y.added)
      (add_rows d e tw k a.table a.labels a.values a.values' s refl a.are_labels a.enough_labels a.alike x.form y.form
      (row_back s a.keyword a.table a.labels a.values a.is_row a.is_table a.are_labels a.are_values x.form (ap form_of (sym a.written) ∙ x.is))
      (row_back s a.keyword a.table a.labels a.values' a.is_row a.is_table a.are_labels a.are_values' y.form (ap form_of (sym a.written') ∙ y.is))
      x.knows)

  line_same : (d e : Doc) → Twins D q d e → (l : List ℕ) (d' e' : Doc) → check_line d l ≡ accepted d' → check_line e l ≡ accepted e' → Twins D q d' e'
  line_same d e tw l d' e' h g =
      let x = line_accepted d l d' h in
      let y = line_accepted e l e' g in
      let f : x.form ≡ y.form = some-injective _ _ (sym x.is ∙ y.is) in
      subst₂ (Twins D q) (sym x.added) (ap (add e) f ∙ sym y.added) (add_same d e tw x.form)

  -- ---- all lines

  line_alike : (d e : Doc) → Twins D q d e → Kept d.policy D → {l m : List ℕ} → (l ≡ m) ⊎ AlikeRows D q l m → (d' e' : Doc) → check_line d l ≡ accepted d' → check_line e m ≡ accepted e' → Twins D q d' e'
  line_alike d e tw k {l} {m} (inl p) d' e' h g = line_same d e tw l d' e' h (ap (check_line e) p ∙ g)
  line_alike d e tw k (inr a) d' e' h g = line_rows d e tw k a d' e' h g

  twins_from : {ps qs : List (List ℕ)} → AlikeLines D q ps qs → (d e : Doc) → Twins D q d e → (l m : List ℕ) → (l ≡ m) ⊎ AlikeRows D q l m → (n n' at at' : ℕ) (A B : Accepted)
      → D ≡ A.doc.policy → check_from d n at l ps ≡ accepted A → check_from e n' at' m qs ≡ accepted B → Twins D q A.doc B.doc
  twins_from no_more d e tw l m a n n' at at' A B is_D h g = subst₂ (Twins D q) (sym (last_accepted d n at l A h)) (sym (last_accepted e n' at' m B g)) tw
  twins_from (same_line p {ls} {ms} r) d e tw l m a n n' at at' A B is_D h g =
      let x = more_accepted d n at l p ls A h in
      let y = more_accepted e n' at' m p ms B g in
      twins_from r x.0 y.0 (line_alike d e tw (rw is_D (kept_from (p ∷ ls) d n at l A h)) a x.0 y.0 x.1 y.1) p p (inl refl) _ _ _ _ A B is_D x.2 y.2
  twins_from (alike_rows {l = p} {m = p'} {ls} {ms} b r) d e tw l m a n n' at at' A B is_D h g =
      let x = more_accepted d n at l p ls A h in
      let y = more_accepted e n' at' m p' ms B g in
      twins_from r x.0 y.0 (line_alike d e tw (rw is_D (kept_from (p ∷ ls) d n at l A h)) a x.0 y.0 x.1 y.1) p p' (inr b) _ _ _ _ A B is_D x.2 y.2

  first_line : {p p' : List ℕ} {ps qs : List (List ℕ)} → AlikeLines D q (p ∷ ps) (p' ∷ qs) → ((p ≡ p') ⊎ AlikeRows D q p p') × AlikeLines D q ps qs
  first_line (same_line l r) = (inl refl, r)
  first_line (alike_rows a r) = (inr a, r)

-- Alike texts mean documents of one policy, whose rows differ only in free values.
pub alike_twins : (text a b : List ℕ) (x : Alike text a b) → Twins x.first.doc.policy (query_of text) x.first.doc x.second.doc
unfolding lines_of
alike_twins text a b x =
    let l = first_line x.lines in
    twins_from l.1 empty_doc empty_doc (record { policy = refl; alike = same_rows empty_doc.rows }) _ _ l.0 0 0 0 0 x.first x.second refl
    (check_accepted a x.first x.accepts).1 (check_accepted b x.second x.accepts').1
