-- A document with the row lines of a file's records behind it is accepted exactly where the records fit it, and then has one row more for
-- each record (02, Q-1). Assumes nothing.
use Prim.Native.Nat.{◌+◌, ◌≤◌, suc, ℕ}
use borrow.Author.Tests.{ltb-false}
use lib.ListN.{length, length-append}
use mathlib.Core.Bool.{true}
use mathlib.Core.List.{List, [], ◌++◌, ◌∷◌, append_assoc, append-nil, flatten, map}
use mathlib.Core.Option.{Option, none}
use mathlib.Core.Path.{◌∙◌, ◌≡◌, ap, refl, sym}
use native.Mathlib.Omega.{arith}
use Rattle.appending.proofs.RowLine.{Takes, row_accepts, row_of, row_taken, with_row}
use Rattle.appending.specs.Appended.{Appends, appended, fits_columns, row_for}
use Rattle.document.proofs.Accepting.{check_accepted, more_accepted}
use Rattle.document.proofs.Joined.{check_joined, line_first}
use Rattle.document.specs.Check.{Accepted, check, check_from, check_line}
use Rattle.document.specs.Lookup.{columns_at, columns_of, label_of, scheme_at, scheme_of, table_of}
use Rattle.document.specs.Policy.{Doc, Policy, Row}
use Rattle.form.specs.Form.{by_row}
use Rattle.form.specs.RowText.{row_text}
use Rattle.import.proofs.ReadBack.{lines_cut}
use Rattle.import.proofs.RowLaws.{unfit_first}
use Rattle.import.specs.Importing.{one_label, record_lines}
use Rattle.csv_text.specs.Records.{Entry, first_unfit}
use Rattle.lists.proofs.ListLaws.{there_some}
use Rattle.lists.proofs.Tests.{and_both, and_left, and_right}
use Rattle.lists.specs.Lists.{all_of, or_zero, there}
use Rattle.text.specs.Bytes.{ascii}
use Rattle.text.specs.Lines.{Pieces, cut}
use Rattle.text.specs.Names.{Name, is_name}
use Rattle.text.specs.Numbers.{is_value}
use Rattle.text.specs.Refusal.{Result, ◌>>◌, accepted, moved_by, refuse_if}
use Rattle.text.specs.Words.{plain_word}

-- ---- the lines of records, behind a document whose rows are rs

module _ (t l : Name) (name_t : is_name t ≡ true) (name_l : is_name l ≡ true) (p : Policy) (s : scheme_of p (plain_word t) ≡ by_row) where
  abbrev doc_with : List Row → Doc
  doc_with rs = record { policy = p; rows = rs }

  abbrev row_with : Entry → Row
  row_with e = row_for (or_zero (table_of p (plain_word t))) (or_zero (label_of p (plain_word l))) e

  abbrev check_lines : List Row → ℕ → ℕ → List Entry → Result Accepted
  check_lines rs n at es = check_from (doc_with rs) n at (cut (record_lines t l es)).head (cut (record_lines t l es)).others

  -- nothing stands behind the last line
  none_left : (rs : List Row) (n at : ℕ) → check_lines rs n at [] ≡ accepted (record { lines = n; doc = doc_with rs })
  unfolding record_lines flatten cut check_from moved_by refuse_if ◌>>◌
  none_left rs n at = refl

  line_checked : (e : Entry) (rs : List Row) → all_of is_value e.fields ≡ true → Takes (doc_with rs) t l e
      → check_line (doc_with rs) (row_text one_label (ascii "row") t (l ∷ []) e.fields) ≡ accepted (doc_with (rs ++ (row_with e ∷ [])))
  unfolding with_row
  line_checked e rs v k = let r = row_of t l e.fields name_t name_l v in row_accepts (doc_with rs) e r.2 s (row_text one_label (ascii "row") t (l ∷ []) e.fields) r.1 v k

  -- the first line, and those behind it
  one_checked : (e : Entry) (es : List Entry) (rs : List Row) (n at : ℕ) → all_of is_value e.fields ≡ true → Takes (doc_with rs) t l e
      → (at' : ℕ) × (check_lines rs n at (e ∷ es) ≡ check_lines (rs ++ (row_with e ∷ [])) (n + 1) at' es)
  one_checked e es rs n at v k = (
    _,
    ap (λ (ps : Pieces). check_from (doc_with rs) n at ps.head ps.others) (lines_cut t l name_t name_l e es v)
        ∙ line_first (doc_with rs) _ n at _ (cut (record_lines t l es)).head (cut (record_lines t l es)).others (line_checked e rs v k),
  )

  lines_accepted : there (table_of p (plain_word t)) ≡ true → there (label_of p (plain_word l)) ≡ true
      → (es : List Entry) (rs : List Row) (n at : ℕ) → first_unfit es ≡ none → all_of (fits_columns (columns_of p (plain_word t))) es ≡ true → length rs + length es ≤ 1024
      → check_lines rs n at es ≡ accepted (record { lines = n + length es; doc = doc_with (rs ++ map row_with es) })
  unfolding all_of
  lines_accepted is_t is_l [] rs n at u f few =
      let same : n ≡ n + 0 = omega arith in
      none_left rs n at ∙ (λ i. accepted (record { lines = same i; doc = doc_with (sym (append-nil rs) i) }))
  lines_accepted is_t is_l (e ∷ es) rs n at u f few =
      let v = unfit_first e es u in
      let fits = and_left (fits_columns (columns_of p (plain_word t)) e) _ f in
      let x = one_checked e es rs n at v.0 (record { table = is_t; label = is_l; fit = fits; room = omega arith }) in
      let same : n + 1 + length es ≡ n + suc (length es) = omega arith in
      x.1
      ∙ lines_accepted is_t is_l es (rs ++ (row_with e ∷ [])) (n + 1) x.0 v.1 (and_right (fits_columns (columns_of p (plain_word t)) e) _ f) (omega (arith, length-append rs (row_with e ∷ [])))
      ∙ (λ i. accepted (record { lines = same i; doc = doc_with (append_assoc rs (row_with e ∷ []) (map row_with es) i) }))

  -- what an accepted line and those behind it were
  first_taken : (e : Entry) (es : List Entry) (rs : List Row) (n at : ℕ) (b : Accepted) → all_of is_value e.fields ≡ true → check_lines rs n at (e ∷ es) ≡ accepted b
      → Takes (doc_with rs) t l e × ((at' : ℕ) × (check_lines (rs ++ (row_with e ∷ [])) (n + 1) at' es ≡ accepted b))
  first_taken e es rs n at b v h =
      let r = row_of t l e.fields name_t name_l v in
      let m = more_accepted (doc_with rs) n at (row_text one_label (ascii "row") t (l ∷ []) e.fields) (cut (record_lines t l es)).head (cut (record_lines t l es)).others b
      (sym (ap (λ (ps : Pieces). check_from (doc_with rs) n at ps.head ps.others) (lines_cut t l name_t name_l e es v)) ∙ h) in
      let k = row_taken (doc_with rs) e r.2 s (row_text one_label (ascii "row") t (l ∷ []) e.fields) r.1 m.0 m.1 in
      let x = one_checked e es rs n at v k in
      (k, (x.0, sym x.1 ∙ h))

  lines_taken : (es : List Entry) (rs : List Row) (n at : ℕ) (b : Accepted) → first_unfit es ≡ none → length rs ≤ 1024 → check_lines rs n at es ≡ accepted b
      → (all_of (fits_columns (columns_of p (plain_word t))) es ≡ true) × (length rs + length es ≤ 1024)
  unfolding all_of
  lines_taken [] rs n at b u few h = (refl, omega arith)
  lines_taken (e ∷ es) rs n at b u few h =
      let v = unfit_first e es u in
      let x = first_taken e es rs n at b v.0 h in
      let room = x.0.room in
      let y = lines_taken es (rs ++ (row_with e ∷ [])) (n + 1) x.1.0 b v.1 (omega (arith, room, length-append rs (row_with e ∷ []))) x.1.1 in
      (and_both (fits_columns (columns_of p (plain_word t)) e) _ x.0.fit y.0, omega (arith, y.1, length-append rs (row_with e ∷ [])))

-- ---- behind a document

-- The lines of records that fit an accepted document are accepted behind it, and add one row for each record, in order.
pub rows_appended : (doc : List ℕ) (t l : Name) (es : List Entry) → is_name t ≡ true → is_name l ≡ true → first_unfit es ≡ none
    → (h : Appends doc (record_lines t l es) t l es) → check (doc ++ record_lines t l es) ≡ accepted (appended h.checked h.table h.label es)
unfolding scheme_of columns_of or_zero there appended
rows_appended doc t l es name_t name_l u h =
    let a = h.checked in
    let p : Policy = a.doc.policy in
    let scheme : scheme_of p (plain_word t) ≡ by_row = ap (λ (o : Option ℕ). scheme_at p (or_zero o)) h.known_table ∙ h.is_by_row in
    let fits : all_of (fits_columns (columns_of p (plain_word t))) es ≡ true = ap (λ (o : Option ℕ). all_of (fits_columns (columns_at p (or_zero o))) es) h.known_table ∙ h.fit in
    let x = check_joined doc (record_lines t l es) a h.accepts h.short in
    x.1
    ∙ lines_accepted t l name_t name_l p scheme (ap there h.known_table) (ap there h.known_label) es a.doc.rows a.lines x.0 u fits h.few
    ∙ (λ i. accepted (appended a (or_zero (h.known_table i)) (or_zero (h.known_label i)) es))

-- and where they are accepted behind it they fit it, if there is a record and the table is labelled by row
pub only_appended : (doc : List ℕ) (t l : Name) (e : Entry) (es : List Entry) → is_name t ≡ true → is_name l ≡ true → first_unfit (e ∷ es) ≡ none
    → (a b : Accepted) → check doc ≡ accepted a → scheme_of a.doc.policy (plain_word t) ≡ by_row → check (doc ++ record_lines t l (e ∷ es)) ≡ accepted b
    → Appends doc (record_lines t l (e ∷ es)) t l (e ∷ es)
unfolding scheme_of columns_of all_of
only_appended doc t l e es name_t name_l u a b h scheme g =
    let p : Policy = a.doc.policy in
    let rs : List Row = a.doc.rows in
    let v = unfit_first e es u in
    let short : length (doc ++ record_lines t l (e ∷ es)) ≤ 60000 = ltb-false 60000 _ (check_accepted _ b g).0 in
    let x = check_joined doc (record_lines t l (e ∷ es)) a h short in
    let k = first_taken t l name_t name_l p scheme e es rs a.lines x.0 b v.0 (sym x.1 ∙ g) in
    let room = k.0.room in
    let y = lines_taken t l name_t name_l p scheme (e ∷ es) rs a.lines x.0 b u (omega (arith, room)) (sym x.1 ∙ g) in
    record {
      checked = a;
      accepts = h;
      table = or_zero (table_of p (plain_word t));
      known_table = there_some (table_of p (plain_word t)) k.0.table;
      is_by_row = scheme;
      label = or_zero (label_of p (plain_word l));
      known_label = there_some (label_of p (plain_word l)) k.0.label;
      fit = y.0;
      few = y.1;
      short = short;
    }
