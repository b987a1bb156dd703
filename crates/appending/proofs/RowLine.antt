-- A row line that was written out for a table labelled by row: when it is accepted, and what it adds. Assumes nothing.
use Prim.Native.Nat.{◌<◌, ℕ}
use borrow.Author.Tests.{leb-false, lt-leb, not-true}
use lib.Dec.{eqb}
use lib.ListN.{length, length-map}
use mathlib.Core.Bool.{Bool, false, not, true}
use mathlib.Core.List.{List, [], ◌++◌, ◌∷◌, map}
use mathlib.Core.Option.{Option, get_or, some-injective, none, some}
use mathlib.Core.Path.{◌∙◌, ◌≡◌, ap, refl, sym}
use native.Mathlib.Omega.{arith}
use Rattle.appending.specs.Appended.{fits_columns, row_for}
use Rattle.document.proofs.Accepting.{line_accepted, line_accepts}
use Rattle.document.proofs.RowMeaning.{bytes_back, labels_back, row_form_lem, row_labels_placeless, row_values_placeless, values_back}
use Rattle.document.proofs.RowsWritten.{bytes_of}
use Rattle.document.specs.AmountFaults.{broken_range, date_exists, in_order, no_such_date}
use Rattle.document.specs.Bounds.{late_attr, over_bound, second_root}
use Rattle.document.specs.Check.{check_line}
use Rattle.document.specs.Lookup.{columns_of, label_of, scheme_of, table_of}
use Rattle.document.specs.Meaning.{add, define, row_meant, rows_given}
use Rattle.document.specs.NameFaults.{row_labels, taken, unknown}
use Rattle.document.specs.NoteFaults.{misplaced}
use Rattle.document.specs.Policy.{Column, Doc, Policy, Row}
use Rattle.document.specs.TypeFaults.{cell_has_kind, mistyped_value, wrong_type}
use Rattle.document.specs.ValueFaults.{misfit, row_values}
use Rattle.form.proofs.RowBack.{items_of, placeless_item, row_back, row_read, row_parts, value_items}
use Rattle.form.specs.Form.{Form, Item, Scheme, by_row, has_brackets, leads_label, row}
use Rattle.form.specs.FormReader.{form_of}
use Rattle.form.specs.RowText.{label_count, row_text}
use Rattle.import.specs.Importing.{one_label}
use Rattle.csv_text.specs.Fields.{Field}
use Rattle.csv_text.specs.Records.{Entry}
use Rattle.lists.proofs.ListLaws.{map_inv, map_map, there_none}
use Rattle.lists.proofs.Tests.{and_both, and_left, and_right, not-false, true_not_false}
use Rattle.lists.specs.Lists.{all_of, holds_of, or_zero, there}
use Rattle.calendar.proofs.CellValues.{values_cells}
use Rattle.calendar.proofs.DateValues.{DateShape, enclosed_date}
use Rattle.calendar.specs.Calendar.{Date}
use Rattle.calendar.specs.DateText.{date_of, date_text}
use Rattle.text.proofs.CellValues.{value_begins, value_no_range}
use Rattle.text.proofs.Written.{spells_whole}
use Rattle.text.proofs.OffendingLaws.{leftmost_head, leftmost_none, leftmost_nil, leftmost_only, leftmost_tail, missing_next, missing_nil, unless_none, unless_true}
use Rattle.text.proofs.ReadBack.{placeless}
use Rattle.text.proofs.NameLaws.{same_name_refl}
use Rattle.text.specs.Bytes.{ascii}
use Rattle.text.specs.Names.{Name, is_name}
use Rattle.text.specs.Numbers.{Value, is_value}
use Rattle.text.specs.Amounts.{range_of}
use Rattle.text.specs.Offending.{leftmost, missing, unless}
use Rattle.text.specs.Refusal.{accepted}
use Rattle.text.specs.Words.{Word, is_called, plain_word}

-- ---- the words of the form

-- the form is a row form of the table t, with the label l and the values vs, each wherever it stands
pub record RowOf (t l : Name) (vs : List Value) (f : Form) : Type 0 where
  pub table : Word
  pub items : List Item
  pub is : f ≡ row table items
  pub is_table : table.bytes ≡ t
  pub label : Word
  pub labels : row_labels by_row items ≡ label ∷ []
  pub is_label : label.bytes ≡ l
  pub words : List Word
  pub values : row_values by_row items ≡ some words
  pub are_values : bytes_of words ≡ vs

bytes_placeless : (ws : List Word) (ns : List Name) → map placeless ws ≡ map plain_word ns → bytes_of ws ≡ ns
unfolding placeless plain_word
bytes_placeless ws ns e = sym (map_map (λ (w : Word). w.bytes) placeless ws) ∙ ap bytes_of e ∙ bytes_back ns

one_word : (l : Name) (ws : List Word) → bytes_of ws ≡ l ∷ [] → (w : Word) × (ws ≡ w ∷ []) × (w.bytes ≡ l)
one_word l [] e = absurd (omega (arith, ap length e))
one_word l (w ∷ []) e = (w, refl, head e)
  where
    first : List Name → Name
    first [] = []
    first (n ∷ ns) = n

    head : ◌≡◌ {A = List Name} (w.bytes ∷ []) (l ∷ []) → w.bytes ≡ l
    head p = ap first p
one_word l (w ∷ v ∷ ws) e = absurd (omega (arith, ap length e))

row_of_parts : (t l : Name) (vs : List Value) → is_name l ≡ true → (f : Form) → row_parts f ≡ some (plain_word t, items_of one_label (l ∷ []) vs) → RowOf t l vs f
unfolding items_of leads_label has_brackets value_items label_count all_of placeless plain_word
row_of_parts t l vs h f e =
    let named : all_of is_name (l ∷ []) ≡ true = and_both (is_name l) true h refl in
    let x = row_form_lem f _ _ e in
    let items≡ : map placeless_item x.1 ≡ items_of {L = ℕ} by_row (l ∷ []) vs = x.4 in
    let v = map_inv (map placeless) (row_values by_row x.1) (map plain_word vs) (sym (row_values_placeless by_row x.1) ∙ ap (row_values by_row) items≡ ∙ values_back by_row (l ∷ []) vs refl named) in
    let k = one_word l (row_labels by_row x.1) (bytes_placeless (row_labels by_row x.1) (l ∷ []) (sym (row_labels_placeless by_row x.1) ∙ ap (row_labels by_row) items≡ ∙ labels_back by_row (l ∷ []) vs refl named)) in
    record {
      table = x.0;
      items = x.1;
      is = x.2;
      is_table = ap (λ (w : Word). w.bytes) x.3;
      label = k.0;
      labels = k.1;
      is_label = k.2;
      words = v.0;
      values = v.1;
      are_values = bytes_placeless v.0 vs (sym v.2);
    }

-- the line is read as such a form
pub row_of : (t l : Name) (vs : List Field) → is_name t ≡ true → is_name l ≡ true → all_of is_value vs ≡ true → (f : Form) × (form_of (row_text one_label (ascii "row") t (l ∷ []) vs) ≡ some f) × RowOf t l vs f
unfolding all_of
row_of t l vs h k m =
    let named : all_of is_name (l ∷ []) ≡ true = and_both (is_name l) true k refl in
    let r = row_read one_label (ascii "row") t (l ∷ []) vs (same_name_refl (ascii "row")) h named (values_cells vs m) in
    (r.0, r.1, row_of_parts t l vs k r.0 (row_back one_label (ascii "row") t (l ∷ []) vs (same_name_refl (ascii "row")) h named (values_cells vs m) r.0 r.1))

-- ---- its tests, by those bytes

mistyped_by_bytes : (cs : List Column) (ws : List Word) → there (mistyped_value cs ws) ≡ there (mistyped_value cs (map plain_word (bytes_of ws)))
unfolding mistyped_value plain_word
mistyped_by_bytes [] ws = refl
mistyped_by_bytes (c ∷ cs) [] = refl
mistyped_by_bytes (c ∷ cs) (w ∷ ws) = go (cell_has_kind c.kind w.bytes) (mistyped_value cs ws) (mistyped_value cs (map plain_word (bytes_of ws))) (mistyped_by_bytes cs ws)
  where
    go : (b : Bool) (o q : Option Word) → there o ≡ there q → there (leftmost (unless b w ∷ o ∷ [])) ≡ there (leftmost (unless b (plain_word w.bytes) ∷ q ∷ []))
    go true o q e = unfold unless leftmost in ap there (leftmost_only o) ∙ e ∙ sym (ap there (leftmost_only q))
    go false o q e = unfold unless leftmost there in refl

-- names and numbers are no ranges, so none is broken
all_ordered : (ws : List Word) → all_of is_value (bytes_of ws) ≡ true → missing (λ w. in_order (range_of w.bytes)) ws ≡ none
unfolding all_of in_order
all_ordered [] h = missing_nil _
all_ordered (w ∷ ws) h =
    missing_next (λ w. in_order (range_of w.bytes)) w ws (ap in_order (value_no_range w.bytes (and_left (is_value w.bytes) (all_of is_value (bytes_of ws)) h)))
    ∙ all_ordered ws (and_right (is_value w.bytes) (all_of is_value (bytes_of ws)) h)

-- nor are they dates
value_no_date : (v : List ℕ) → is_value v ≡ true → date_of v ≡ none
value_no_date v h = go (date_of v) refl
  where
    go : (o : Option Date) → date_of v ≡ o → o ≡ none
    go none e = refl
    go (some d) e =
        let t = spells_whole DateShape date_text enclosed_date.spelled v d (unfold date_of in e) in
        true_not_false (ap (λ (b : ℕ). eqb b 40) (enclosed_date.opens d v [] t)) (value_begins v [] h)

all_dated : (ws : List Word) → all_of is_value (bytes_of ws) ≡ true → missing (λ w. date_exists (date_of w.bytes)) ws ≡ none
unfolding all_of date_exists
all_dated [] h = missing_nil _
all_dated (w ∷ ws) h =
    missing_next (λ w. date_exists (date_of w.bytes)) w ws (ap date_exists (value_no_date w.bytes (and_left (is_value w.bytes) (all_of is_value (bytes_of ws)) h)))
    ∙ all_dated ws (and_right (is_value w.bytes) (all_of is_value (bytes_of ws)) h)

module _ (p : Policy) {t l : Name} {vs : List Value} {f : Form} (r : RowOf t l vs f) (s : scheme_of p (plain_word t) ≡ by_row) where
  scheme_is : scheme_of p r.table ≡ by_row
  unfolding scheme_of table_of is_called plain_word
  scheme_is = ap (λ (n : Name). scheme_of p (plain_word n)) r.is_table ∙ s

  unknown_is : unknown p (row r.table r.items) ≡ leftmost (unless (there (table_of p (plain_word t))) r.table ∷ leftmost (unless (there (label_of p (plain_word l))) r.label ∷ []) ∷ [])
  unfolding unknown missing table_of label_of is_called plain_word
  unknown_is =
      ap (λ (x : Scheme ℕ). leftmost (unless (there (table_of p r.table)) r.table ∷ missing (λ w. there (label_of p w)) (row_labels x r.items) ∷ [])) scheme_is
      ∙ ap (λ (ws : List Word). leftmost (unless (there (table_of p r.table)) r.table ∷ missing (λ w. there (label_of p w)) ws ∷ [])) r.labels
      ∙ (λ i. leftmost (unless (there (table_of p (plain_word (r.is_table i)))) r.table ∷ leftmost (unless (there (label_of p (plain_word (r.is_label i)))) r.label ∷ []) ∷ []))

  misfit_is : misfit p (row r.table r.items) ≡ not (eqb (length vs) (length (columns_of p (plain_word t))))
  unfolding misfit holds_of columns_of table_of is_called plain_word
  misfit_is =
      ap (λ (x : Scheme ℕ). not (holds_of (λ ws. eqb (length ws) (length (columns_of p r.table))) (row_values x r.items))) scheme_is
      ∙ ap (λ (o : Option (List Word)). not (holds_of (λ ws. eqb (length ws) (length (columns_of p r.table))) o)) r.values
      ∙ (λ i. not (eqb (words_length i) (length (columns_of p (plain_word (r.is_table i))))))
    where
      words_length : length r.words ≡ length vs
      words_length = sym (length-map r.words (λ (w : Word). w.bytes)) ∙ ap length r.are_values

  typed_is : there (wrong_type p (row r.table r.items)) ≡ there (mistyped_value (columns_of p (plain_word t)) (map plain_word vs))
  unfolding wrong_type columns_of table_of is_called plain_word
  typed_is =
      ap (λ (x : Scheme ℕ). there (mistyped_value (columns_of p r.table) (get_or (row_values x r.items) []))) scheme_is
      ∙ ap (λ (o : Option (List Word)). there (mistyped_value (columns_of p r.table) (get_or o []))) r.values
      ∙ mistyped_by_bytes (columns_of p r.table) r.words
      ∙ (λ i. there (mistyped_value (columns_of p (plain_word (r.is_table i))) (map plain_word (r.are_values i))))

  ordered_is : all_of is_value vs ≡ true → broken_range p (row r.table r.items) ≡ none
  unfolding broken_range
  ordered_is h =
      ap (λ (x : Scheme ℕ). missing (λ w. in_order (range_of w.bytes)) (get_or (row_values x r.items) [])) scheme_is
      ∙ ap (λ (o : Option (List Word)). missing (λ w. in_order (range_of w.bytes)) (get_or o [])) r.values
      ∙ all_ordered r.words (ap (all_of is_value) r.are_values ∙ h)

  dated_is : all_of is_value vs ≡ true → no_such_date p (row r.table r.items) ≡ none
  unfolding no_such_date
  dated_is h =
      ap (λ (x : Scheme ℕ). missing (λ w. date_exists (date_of w.bytes)) (get_or (row_values x r.items) [])) scheme_is
      ∙ ap (λ (o : Option (List Word)). missing (λ w. date_exists (date_of w.bytes)) (get_or o [])) r.values
      ∙ all_dated r.words (ap (all_of is_value) r.are_values ∙ h)

  meant_is : row_meant p r.table r.items ≡ record { table = or_zero (table_of p (plain_word t)); values = vs; labels = or_zero (label_of p (plain_word l)) ∷ [] }
  unfolding row_meant table_of label_of is_called plain_word
  meant_is =
      ap (λ (x : Scheme ℕ). meant x (row_values x r.items) (row_labels x r.items)) scheme_is
      ∙ (λ i. meant by_row (r.values i) (r.labels i))
      ∙ (λ i. record { table = or_zero (table_of p (plain_word (r.is_table i))); values = r.are_values i; labels = or_zero (label_of p (plain_word (r.is_label i))) ∷ [] })
    where
      meant : Scheme ℕ → Option (List Word) → List Word → Row
      meant x o ws = record { table = or_zero (table_of p r.table); values = map (λ w. w.bytes) (get_or o []); labels = map (λ w. or_zero (label_of p w)) ws }

-- ---- the line

-- the row of a record may stand behind the document, whose table is labelled by row: the table and the label are known, the
-- record fits the columns, and there is room for one row more
pub record Takes (d : Doc) (t l : Name) (e : Entry) : Type 0 where
  pub table : there (table_of d.policy (plain_word t)) ≡ true
  pub label : there (label_of d.policy (plain_word l)) ≡ true
  pub fit : fits_columns (columns_of d.policy (plain_word t)) e ≡ true
  pub room : length d.rows < 1024

-- the document with the row behind its others
unfoldable pub with_row : Doc → Name → Name → Entry → Doc
with_row d t l e = record { policy = d.policy; rows = d.rows ++ (row_for (or_zero (table_of d.policy (plain_word t))) (or_zero (label_of d.policy (plain_word l))) e ∷ []) }

module _ (d : Doc) {t l : Name} (e : Entry) {f : Form} (r : RowOf t l e.fields f) (s : scheme_of d.policy (plain_word t) ≡ by_row) where
  adds_row : add d (row r.table r.items) ≡ with_row d t l e
  unfolding add define rows_given with_row row_for
  adds_row = ap (λ (x : Row). record { policy = d.policy; rows = d.rows ++ (x ∷ []) }) (meant_is d.policy r s)

  pub row_accepts : (line : List ℕ) → form_of line ≡ some f → all_of is_value e.fields ≡ true → Takes d t l e → check_line d line ≡ accepted (with_row d t l e)
  unfolding fits_columns over_bound taken second_root late_attr misplaced
  row_accepts line is plainly k =
      let cs : List Column = columns_of d.policy (plain_word t) in
      let width : eqb (length e.fields) (length cs) ≡ true = and_left _ _ k.fit in
      let types : not (there (mistyped_value cs (map plain_word e.fields))) ≡ true = and_right (eqb (length e.fields) (length cs)) _ k.fit in
      line_accepts d line (row r.table r.items) (is ∙ ap some r.is)
      (lt-leb 1024 (length d.rows) k.room)
      refl
      (unknown_is d.policy r s ∙ leftmost_none _ _ (unless_true _ r.table k.table) (leftmost_none _ _ (leftmost_none _ _ (unless_true _ r.label k.label) leftmost_nil) leftmost_nil))
      refl
      (misfit_is d.policy r s ∙ ap not width)
      (there_none _ (typed_is d.policy r s ∙ not-true _ types))
      (ordered_is d.policy r s plainly)
      (dated_is d.policy r s plainly)
      refl
      refl
      ∙ ap accepted adds_row

  pub row_taken : (line : List ℕ) → form_of line ≡ some f → (d' : Doc) → check_line d line ≡ accepted d' → Takes d t l e
  unfolding fits_columns over_bound there
  row_taken line is d' h =
      let cs : List Column = columns_of d.policy (plain_word t) in
      let a = line_accepted d line d' h in
      let same : a.form ≡ row r.table r.items = some-injective _ _ (sym a.is ∙ is ∙ ap some r.is) in
      let u : leftmost (unless (there (table_of d.policy (plain_word t))) r.table ∷ leftmost (unless (there (label_of d.policy (plain_word l))) r.label ∷ []) ∷ []) ≡ none =
      sym (unknown_is d.policy r s) ∙ ap (unknown d.policy) (sym same) ∙ a.knows in
      record {
        table = unless_none _ r.table (leftmost_head _ _ u);
        label = unless_none _ r.label (leftmost_head _ _ (leftmost_head _ _ (leftmost_tail _ _ u)));
        fit = and_both (eqb (length e.fields) (length cs)) _
            (not-false (eqb (length e.fields) (length cs)) (sym (misfit_is d.policy r s) ∙ ap (misfit d.policy) (sym same) ∙ a.fits))
            (ap not (sym (typed_is d.policy r s) ∙ ap (λ (g : Form). there (wrong_type d.policy g)) (sym same) ∙ ap there a.typed));
        room = leb-false 1024 (length d.rows) (ap (over_bound d) (sym same) ∙ a.bounded);
      }
