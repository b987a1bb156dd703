-- A row whose items were walked to the bracket that ends its line: the check accepts it, and it stands in the workspace. Assumes
-- nothing.
use Prim.Native.Nat.{◌+◌, ◌<◌, ◌≤◌, ℕ}
use Rattle.calendar.specs.DateText.{date_of}
use Rattle.condition.specs.Kinds.{has_kind, names}
use Rattle.document.proofs.RowItems.{labels_by, led_name, led_values, values_by}
use Rattle.document.specs.AmountFaults.{date_exists, in_order}
use Rattle.document.specs.Lookup.{columns_at, label_of, scheme_at, scheme_of, table_of}
use Rattle.document.specs.NameFaults.{bracket_labels, leading_name, row_labels}
use Rattle.document.specs.Policy.{Column, Doc, Policy}
use Rattle.document.specs.TypeFaults.{cell_has_kind, mistyped_value}
use Rattle.document.specs.ValueFaults.{row_values, shaped_values, values_behind_label}
use Rattle.form.proofs.FormForward.{forward_item}
use Rattle.form.proofs.WalkSteps.{cells_stop, plain_stop}
use Rattle.form.specs.Form.{Item, Scheme, has_brackets, leads_label}
use Rattle.form.specs.FormReader.{item}
use Rattle.form.specs.Walks.{items_at}
use Rattle.form.specs.declared.lines.Scheme as coded
use Rattle.lists.proofs.ListLaws.{holds_of_some}
use Rattle.lists.proofs.Tests.{eqb_self, true_not_false}
use Rattle.lists.specs.Lists.{or_zero, there}
use Rattle.relations.proofs.RowLaws.{rows_counted}
use Rattle.relations.proofs.TableLaws.{scheme_read_lem}
use Rattle.relations.specs.Rows.{Rows}
use Rattle.relations.specs.Tables.{Tables, column_label_in, column_labels_in, scheme_by, scheme_in, table_label_in}
use Rattle.rows.proofs.RowChecks.{first_broken, first_unreal, labels_done, no_values_left, one_missing, test_done}
use Rattle.rows.proofs.RowItems.{fits_stop, shaped_at, width_fits}
use Rattle.rows.proofs.RowJudging.{row_fine}
use Rattle.rows.proofs.RowStored.{Added, AddsRow, RowFits, cells_stored, leading_stored, led_alone, nested_stored, none_before, plain_stored, row_stored}
use Rattle.rows.proofs.RowTypes.{word_kind}
use Rattle.rows.proofs.StoredItems.{brackets_behind}
use Rattle.rows.specs.RowWords.{values_at}
use Rattle.stepping.specs.Stored.{Passes}
use Rattle.text.proofs.Closings.{written_end}
use Rattle.text.proofs.EndLaws.{list_more}
use Rattle.text.proofs.OffendingLaws.{missing_nil, missing_second, unless_true}
use Rattle.text.proofs.WordLaws.{not_name_letter}
use Rattle.text.specs.Amounts.{range_of}
use Rattle.text.specs.Brackets.{many}
use Rattle.text.specs.Bytes.{is_letter}
use Rattle.text.specs.CodeEnds.{word_end}
use Rattle.text.specs.Offending.{missing}
use Rattle.text.specs.Reader.{from}
use Rattle.text.specs.Walking.{word_end_at}
use Rattle.text.specs.Words.{Word, word_of, written_at}
use Rattle.std.specs.Prelude.{Option, Some}
use Rattle.walks.proofs.RowLines.{no_items, no_space}
use Rattle.walks.proofs.Typed.{typed_plain}
use Rattle.walks.specs.Taken.{ItemsClose, ItemsTaken, closes_at, row_at}
use Rattle.walks.specs.Walked.{CellsTaken, ItemsWalked, LabelTaken, ValuesTaken}
use Rattle.workspace.specs.Found.{FoundBelow, found_as}
use Rattle.workspace.specs.Tabulated.{tabulated}
use borrow.Author.Tests.{eqb-true}
use lib.Dec.{eqb}
use lib.ListN.{drop, get_or, length}
use mathlib.Core.Bool.{Bool, cond, false, true}
use mathlib.Core.List.{List, [], ◌++◌, ◌∷◌, map}
use mathlib.Core.Option.{none, some}
use mathlib.Core.Path.{◌∙◌, ◌≡◌, ap, refl, subst, sym}
use native.Mathlib.Omega.{arith}

-- ---- items that were walked to the bracket

module _ {b : Bool} {line : List ℕ} {n : ℕ} {cs : List Column} {is e : ℕ} (w : ItemsWalked b line n cs is e) (shut : closes_at line e ≡ true) where
  walked_close : ItemsClose line is
  walked_close = record { end = e; read = w.ends ∙ no_items line e shut; closed = shut }

  walked_fits : width_fits n (shaped_values b (items_at line is)) ≡ true
  walked_fits = w.fits ∙ fits_stop line e n n b (no_space line e shut) ∙ eqb_self n

  walked_typed : mistyped_value cs (values_at line is) ≡ none
  walked_typed = w.typed ∙ no_values_left (drop n cs) line e (no_space line e shut)

  walked_ordered : first_broken (values_at line is) ≡ none
  walked_ordered = w.ordered ∙ test_done (λ v. in_order (range_of v)) line e (no_space line e shut)

  walked_dated : first_unreal (values_at line is) ≡ none
  walked_dated = w.dated ∙ test_done (λ v. date_exists (date_of v)) line e (no_space line e shut)

-- ---- a row of table x, whose scheme is s: its labels are known, and the values of its items are those that were walked from j on

module _ (d : Doc) (line : List ℕ) (is k x : ℕ) (counted : k ≡ length d.rows) (room : k < 1024) (table : table_of d.policy (word_of line 5) ≡ some x)
    (s : Scheme ℕ) (scheme : scheme_at d.policy x ≡ s) (labelled : missing (λ v. there (label_of d.policy v)) (row_labels s (items_at line is)) ≡ none)
    {b : Bool} {n j e : ℕ} (w : ItemsWalked b line n (columns_at d.policy x) j e) (shut : closes_at line e ≡ true) (wide : n ≡ length (columns_at d.policy x)) (few : n ≤ 16)
    (shaped : row_values s (items_at line is) ≡ shaped_values b (items_at line j)) where
  fits_columns_lem : width_fits (length (columns_at d.policy x)) (row_values s (items_at line is)) ≡ true
  fits_columns_lem = subst (λ m. width_fits m (row_values s (items_at line is)) ≡ true) wide (ap (width_fits n) shaped ∙ walked_fits w shut)

  values_of : (ws : List Word) × (row_values s (items_at line is) ≡ some ws) × (eqb (length ws) (length (columns_at d.policy x)) ≡ true)
  values_of = holds_of_some (λ ws. eqb (length ws) (length (columns_at d.policy x))) (row_values s (items_at line is)) fits_columns_lem

  row_passes : Passes d line (row_at line is)
  row_passes =
      row_fine d line (word_of line 5) (items_at line is) k counted room x table s scheme labelled fits_columns_lem values_of.0 values_of.1
      (ap (mistyped_value (columns_at d.policy x)) (sym (shaped_at b line j values_of.0 (sym shaped ∙ values_of.1))) ∙ walked_typed w shut)
      (ap first_broken (sym (shaped_at b line j values_of.0 (sym shaped ∙ values_of.1))) ∙ walked_ordered w shut)
      (ap first_unreal (sym (shaped_at b line j values_of.0 (sym shaped ∙ values_of.1))) ∙ walked_dated w shut)

  row_of : RowFits d (word_of line 5) (items_at line is) k s
  unfolding scheme_of or_zero
  row_of = record {
    small = room;
    words = values_of.0;
    values = values_of.1;
    few = omega (arith, eqb-true (length values_of.0) (length (columns_at d.policy x)) values_of.2, wide, few);
    is = ap (λ o. scheme_at d.policy (or_zero o)) table ∙ scheme;
  }

  -- it is taken if its words are stored
  taken_so : {text after : List ℕ} → ItemsClose line is
      → ((f : RowFits d (word_of line 5) (items_at line is) k s) → Rows text after (k + 1) (d.rows ++ (record { table = x; values = map (λ w. w.bytes) f.words; labels = map (λ w. or_zero (label_of d.policy w)) (row_labels s (items_at line is)) } ∷ [])))
      → ItemsTaken text line after k is d
  unfolding or_zero
  taken_so c stored = record { items = c; passes = row_passes; rows = row_stored d (word_of line 5) (items_at line is) s x row_of (sym (ap or_zero table)) (stored row_of) }

-- ---- what the scheme of the table says of the items

-- the first is the label
module _ {before marked line : List ℕ} {d : Policy} {k is j : ℕ} (l : LabelTaken before marked line d k 0 is j) where
  -- a name begins with no bracket
  bare : get_or line (is + 1) 0 ≡ 40 → ⊥
  unfolding is_letter
  bare z = true_not_false l.named (not_name_letter line (is + 1) (ap is_letter z))

  is_typed : cell_has_kind names (written_at line (is + 1)) ≡ true
  unfolding has_kind
  is_typed = sym (word_kind line (is + 1) names bare) ∙ l.named

  led_ends : word_end (many item (from line is)) ≡ word_end (many item (from line j))
  led_ends = sym (list_more item forward_item line is refl l.space refl (typed_plain line (is + 1) names is_typed ∙ ap Some (written_end line (is + 1) bare ∙ sym l.end)) refl)

  led_labelled : (us : List Word) → missing (λ v. there (label_of d v)) us ≡ none → missing (λ v. there (label_of d v)) (leading_name (items_at line is) ++ us) ≡ none
  led_labelled us h =
      missing_second (λ v. there (label_of d v)) (leading_name (items_at line is)) us
      (ap (missing (λ v. there (label_of d v))) (led_name line is l.space bare true l.named)
      ∙ one_missing (λ v. there (label_of d v)) (word_of line (is + 1)) true l.found
      ∙ unless_true true (word_of line (is + 1)) refl)
      ∙ h

  led_shaped : (b : Bool) → values_behind_label (shaped_values b) (items_at line is) ≡ shaped_values b (items_at line j)
  led_shaped b = led_values line is l.space bare true l.named (shaped_values b) ∙ ap (λ m. shaped_values b (items_at line m)) (sym l.end)

  led_brackets : bracket_labels (items_at line is) ≡ bracket_labels (items_at line j)
  led_brackets = brackets_behind line is l.space bare ∙ ap (λ m. bracket_labels (items_at line m)) (sym l.end)

-- the brackets' labels are known
cells_labelled : {text before mid : List ℕ} {k n m : ℕ} {ls : List ℕ} (d : Policy) (line : List ℕ) {cs : List Column} {is e : ℕ} → CellsTaken text before mid line k n m ls d cs is e → closes_at line e ≡ true
    → missing (λ v. there (label_of d v)) (bracket_labels (items_at line is)) ≡ none
cells_labelled d line {cs} {is} {e} t shut = t.labelled ∙ labels_done (λ v. there (label_of d v)) line e (no_space line e shut)

-- ---- the row is taken, by the two marks of its table's scheme: whether rows lead with a label, and whether they have brackets

module _ {text before : List ℕ} {k x n : ℕ} (d : Doc) (line : List ℕ) (is e : ℕ) (N : Rows text before k d.rows) (room : k < 1024) (table : table_of d.policy (word_of line 5) ≡ some x)
    (shut : closes_at line e ≡ true) (wide : n ≡ length (columns_at d.policy x)) (few : n ≤ 16) where
  module _ {a b : Bool} (p : leads_label (scheme_at d.policy x) ≡ a) (q : has_brackets (scheme_at d.policy x) ≡ b) where
    -- it is taken if its labels are known, its values were walked, and both are stored
    shape_taken : {after : List ℕ} {j : ℕ} → missing (λ v. there (label_of d.policy v)) (cond a (leading_name (items_at line is)) [] ++ cond b (bracket_labels (items_at line is)) []) ≡ none
        → cond a (values_behind_label (shaped_values b) (items_at line is)) (shaped_values b (items_at line is)) ≡ shaped_values b (items_at line j)
        → ItemsWalked b line n (columns_at d.policy x) j e → ItemsClose line is
        → ((ws : List Word) → length ws ≤ 16 → cond a (values_behind_label (shaped_values b) (items_at line is)) (shaped_values b (items_at line is)) ≡ some ws → Added text after k d x ws (cond a (leading_name (items_at line is)) [] ++ cond b (bracket_labels (items_at line is)) []))
        → ItemsTaken text line after k is d
    shape_taken {after} labelled shaped walked close stored =
        taken_so d line is k x (sym (rows_counted text before k d.rows N)) room table (scheme_at d.policy x) refl (ap (missing (λ v. there (label_of d.policy v))) (labels_by (scheme_at d.policy x) p q (items_at line is)) ∙ labelled) walked shut wide few (values_by (scheme_at d.policy x) p q (items_at line is) ∙ shaped) close
        (λ (f : RowFits d (word_of line 5) (items_at line is) k (scheme_at d.policy x)).
        subst (λ (ls : List Word). Added text after k d x f.words ls) (sym (labels_by (scheme_at d.policy x) p q (items_at line is))) (stored f.words f.few (sym (values_by (scheme_at d.policy x) p q (items_at line is)) ∙ f.values)))

  pub plain_taken : {mid after : List ℕ} → leads_label (scheme_at d.policy x) ≡ false → has_brackets (scheme_at d.policy x) ≡ false → ValuesTaken text before mid line k n 0 [] (columns_at d.policy x) is e → AddsRow text mid after k x n 0 → ItemsTaken text line after k is d
  unfolding shaped_values
  plain_taken p q t more =
      shape_taken p q (missing_nil (λ v. there (label_of d.policy v))) refl t.walked (walked_close t.walked shut)
      (λ ws short v. plain_stored line is d.rows ws N room short v (λ short g. t.filled (plain_stop line e (no_space line e shut))) more)

  pub cells_taken : {mid after : List ℕ} → leads_label (scheme_at d.policy x) ≡ false → has_brackets (scheme_at d.policy x) ≡ true → CellsTaken text before mid line k n 0 [] d.policy (columns_at d.policy x) is e → AddsRow text mid after k x n n → ItemsTaken text line after k is d
  unfolding shaped_values
  cells_taken p q t more =
      shape_taken p q (cells_labelled d.policy line t shut) refl t.walked (walked_close t.walked shut)
      (λ ws short v. cells_stored line is d.rows ws N room short d.policy v (λ short. none_before (t.filled (cells_stop line e (no_space line e shut)))) more)

  module _ {marked : List ℕ} {j : ℕ} (l : LabelTaken before marked line d.policy k 0 is j) where
    led_close : {b : Bool} → ItemsWalked b line n (columns_at d.policy x) j e → ItemsClose line is
    led_close w = record { end = e; read = led_ends l ∙ w.ends ∙ no_items line e shut; closed = shut }

    pub led_taken : {mid after : List ℕ} → leads_label (scheme_at d.policy x) ≡ true → has_brackets (scheme_at d.policy x) ≡ false → ValuesTaken text marked mid line k n 1 (or_zero (label_of d.policy (word_of line (is + 1))) ∷ []) (columns_at d.policy x) j e
        → AddsRow text mid after k x n 1 → ItemsTaken text line after k is d
    unfolding shaped_values word_end_at
    led_taken p q t more =
        shape_taken p q (led_labelled l [] (missing_nil (λ v. there (label_of d.policy v)))) (led_shaped l false) t.walked (led_close t.walked)
        (λ ws short v. led_alone k x d (items_at line is) ws
        (leading_stored line is d.rows ws N room short d.policy (or_zero (label_of d.policy (word_of line (is + 1)))) j v l.space refl l.stored l.end
        (λ short g. t.filled (plain_stop line e (no_space line e shut))) more))

    pub nested_taken : {mid after : List ℕ} {m : ℕ} → leads_label (scheme_at d.policy x) ≡ true → has_brackets (scheme_at d.policy x) ≡ true
        → CellsTaken text marked mid line k n 1 (or_zero (label_of d.policy (word_of line (is + 1))) ∷ []) d.policy (columns_at d.policy x) j e
        → m ≡ n + 1 → AddsRow text mid after k x n m → ItemsTaken text line after k is d
    unfolding shaped_values word_end_at
    nested_taken p q t counted more =
        shape_taken p q (led_labelled l (bracket_labels (items_at line is)) (ap (missing (λ v. there (label_of d.policy v))) (led_brackets l) ∙ cells_labelled d.policy line t shut)) (led_shaped l true) t.walked (led_close t.walked)
        (λ ws short v.
        nested_stored line is d.rows ws N room short d.policy (or_zero (label_of d.policy (word_of line (is + 1)))) j v l.space refl l.stored l.end
        (λ short g. t.filled (cells_stop line e (no_space line e shut))) (λ z. counted) more)

-- ---- what the code looked up

-- the table of this name has the number x, and its scheme is the one that the code names
pub record TableTold (tables : List ℕ) (count x : ℕ) (s : coded.Scheme) (w : Word) (d : Policy) : Type 0 where
  pub table : table_of d w ≡ some x
  pub inside : x < count
  pub scheme : scheme_at d x ≡ scheme_by s (table_label_in tables x) (tabulated (column_label_in tables x) (length (columns_at d x)))

pub table_told : {text tables : List ℕ} {count x : ℕ} {r : Option ℕ} {q s : coded.Scheme} (w : Word) (d : Policy) → Tables text tables count d.tables → r ≡ Some x → found_as r ≡ table_of d w → FoundBelow r count
    → q ≡ s → (x < 8 → scheme_in tables x ≡ scheme_by q (table_label_in tables x) (column_labels_in tables x)) → TableTold tables count x s w d
table_told {text} {tables} {count} {x} {r} {q} {s} w d T at lookup below told reads =
    let inside : x < count = subst (λ (f : Option ℕ). FoundBelow f count) at below in
    record {
      table = sym lookup ∙ ap found_as at;
      inside = inside;
      scheme = scheme_read_lem text tables count x d T inside s (subst (λ (c : coded.Scheme). x < 8 → scheme_in tables x ≡ scheme_by c (table_label_in tables x) (column_labels_in tables x)) told reads);
    }
