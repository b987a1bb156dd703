-- Every value of an accepted document's rows has a byte at least. Assumes nothing.
use Prim.Native.Nat.{ℕ}
use lib.ListN.{length}
use mathlib.Core.Bool.{Bool, ◌&&◌, false, not, true, true≢false}
use mathlib.Core.List.{List, [], ◌∷◌}
use mathlib.Core.Option.{get_or, none}
use mathlib.Core.Path.{◌∙◌, ◌≡◌, ap, refl, sym}
use native.Mathlib.Omega.{arith}
use Rattle.calendar.specs.DateText.{date_of, date_text, is_date}
use Rattle.condition.specs.Kinds.{Kind, dates, has_kind, names, numbers}
use Rattle.document.proofs.Accepting.{check_accepted, last_accepted, line_accepted, more_accepted}
use Rattle.document.proofs.RowsFit.{row_values_lem}
use Rattle.document.specs.Check.{Accepted, check, check_from, check_line}
use Rattle.document.specs.Lookup.{columns_of, scheme_of}
use Rattle.document.specs.Meaning.{add, row_meant, rows_given}
use Rattle.document.specs.Policy.{Column, Doc, Policy, Row, empty_doc}
use Rattle.document.specs.TypeFaults.{cell_has_kind, mistyped_value, wrong_type}
use Rattle.document.specs.ValueFaults.{misfit, row_values}
use Rattle.form.specs.Form.{Form, Item, attr, cond_role, grant, label, note, purpose, role, row, table, user}
use Rattle.lists.proofs.KeptLaws.{all_append}
use Rattle.lists.proofs.ListLaws.{all_map}
use Rattle.lists.specs.Lists.{all_of, is_empty, there}
use Rattle.text.proofs.OffendingLaws.{leftmost_head, leftmost_tail, unless_none}
use Rattle.text.specs.Amounts.{is_range, range, range_of}
use Rattle.text.specs.Brackets.{bracketed}
use Rattle.text.specs.Bytes.{is_letter}
use Rattle.text.specs.Names.{is_name}
use Rattle.text.specs.Numbers.{Value, is_number, rank}
use Rattle.text.specs.Reader.{byte, ended, whole}
use Rattle.text.specs.Refusal.{accepted}
use Rattle.text.specs.Words.{Word}

-- the value has a byte
unfoldable pub filled : Value → Bool
filled v = not (is_empty v)

-- the values of the rows have
unfoldable pub rows_filled : List Row → Bool
rows_filled rs = all_of (λ r. all_of filled r.values) rs

-- a value of any type has
kind_filled : (k : Kind) (v : Value) → cell_has_kind k v ≡ true → filled v ≡ true
unfolding cell_has_kind is_range range_of whole ended range bracketed byte has_kind is_number there rank is_name is_date date_of date_text filled is_letter
kind_filled numbers [] h = absurd (true≢false (sym h))
kind_filled numbers (b ∷ bs) h = refl
kind_filled names [] h = absurd (true≢false (sym h))
kind_filled names (b ∷ bs) h = refl
kind_filled dates [] h = absurd (true≢false (sym h))
kind_filled dates (b ∷ bs) h = refl

-- so have the values of a row that are of their columns' types
typed_filled : (cs : List Column) (ws : List Word) → length ws ≡ length cs → mistyped_value cs ws ≡ none → all_of (λ (w : Word). filled w.bytes) ws ≡ true
unfolding mistyped_value all_of
typed_filled [] [] e h = refl
typed_filled [] (w ∷ ws) e h = absurd (omega (arith, e))
typed_filled (c ∷ cs) [] e h = refl
typed_filled (c ∷ cs) (w ∷ ws) e h =
    rw (kind_filled c.kind w.bytes (unless_none _ w (leftmost_head _ _ h)), typed_filled cs ws (omega (arith, e)) (leftmost_head _ _ (leftmost_tail _ _ h)))

row_filled : (d : Policy) (t : Word) (is : List Item) → misfit d (row t is) ≡ false → wrong_type d (row t is) ≡ none → rows_filled (rows_given d (row t is)) ≡ true
unfolding misfit wrong_type rows_given row_meant rows_filled all_of
row_filled d t is m y =
    let v = row_values_lem _ _ m in
    let ws : List Word = get_or (row_values (scheme_of d t) is) [] in
    let same : ws ≡ v.0 = ap (λ o. get_or o []) v.1 in
    rw (all_map filled (λ (w : Word). w.bytes) ws, typed_filled (columns_of d t) ws (ap length same ∙ v.2) y)

form_filled : (d : Policy) (f : Form) → misfit d f ≡ false → wrong_type d f ≡ none → rows_filled (rows_given d f) ≡ true
unfolding rows_given rows_filled all_of
form_filled d (purpose n p) m y = refl
form_filled d (role n p) m y = refl
form_filled d (attr r a k) m y = refl
form_filled d (user u r gs) m y = refl
form_filled d (cond_role c r t) m y = refl
form_filled d (grant p c) m y = refl
form_filled d (label l ps qs) m y = refl
form_filled d (table t s cs) m y = refl
form_filled d (row t is) m y = row_filled d t is m y
form_filled d (note t n) m y = refl

line_filled : (d : Doc) (line : List ℕ) (e : Doc) → rows_filled d.rows ≡ true → check_line d line ≡ accepted e → rows_filled e.rows ≡ true
unfolding add rows_filled
line_filled d line e h x =
    let a = line_accepted d line e x in
    ap (λ (y : Doc). rows_filled y.rows) a.added ∙ all_append _ d.rows _ ∙ (λ i. h i && form_filled d.policy a.form a.fits a.typed i)

lines_filled : (ps : List (List ℕ)) (d : Doc) (n at : ℕ) (p : List ℕ) (A : Accepted) → rows_filled d.rows ≡ true → check_from d n at p ps ≡ accepted A → rows_filled A.doc.rows ≡ true
lines_filled [] d n at p A h e = ap (λ (x : Doc). rows_filled x.rows) (last_accepted d n at p A e) ∙ h
lines_filled (q ∷ ps) d n at p A h e =
    let i = more_accepted d n at p q ps A e in
    lines_filled ps i.0 _ _ q A (line_filled d p i.0 h i.1) i.2

-- Every value of an accepted document has a byte.
pub accepted_filled : (text : List ℕ) (A : Accepted) → check text ≡ accepted A → rows_filled A.doc.rows ≡ true
unfolding empty_doc rows_filled all_of
accepted_filled text A h = let i = check_accepted text A h in lines_filled _ empty_doc 0 0 _ A refl i.1
