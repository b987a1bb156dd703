-- The label meant for a cell, and the reason by it. Assumes nothing.
use Prim.Native.Nat.{◌<◌, ◌≤◌, ℕ}
use lib.ListN.{get_elem?, length}
use mathlib.Core.Bool.{Bool, cond, false, true, true≢false}
use mathlib.Core.List.{List}
use mathlib.Core.Option.{bind, none, some}
use mathlib.Core.Path.{◌∙◌, ◌≡◌, ap, refl, sym}
use native.Mathlib.Omega.{arith}
use Rattle.answer.specs.Why.{Reason, allows_none, cell_reason, label_meant, opened, reason_at, unlabelled_table}
use Rattle.document.specs.Lookup.{columns_at, is_public, labelling_at, notes_of, scheme_at, settled}
use Rattle.document.specs.NoteFaults.{is_nested}
use Rattle.document.specs.Policy.{Policy}
use Rattle.form.specs.Form.{Note, Scheme, by_cell, by_column, by_row, by_table, nested, unlabelled}
use Rattle.form.specs.declared.lines.Scheme as coded
use Rattle.lists.specs.Lists.{any_of}
use Rattle.reasons.specs.Explaining.{is_unlabelled}
use Rattle.relations.proofs.LabelLaws.{element_none}
use Rattle.relations.proofs.TableLaws.{column_label_read, scheme_read_lem, width_read}
use Rattle.relations.specs.Tables.{Cut, Tables, column_count_in, column_label_in, column_labels_in, scheme_by, scheme_in, table_label_in}
use Rattle.workspace.proofs.TabulatedLaws.{length_tabulated}
use Rattle.workspace.specs.Tabulated.{tabulated}

-- the labels of the columns of table t, as the array holds them
abbrev pub column_labels : List ℕ → ℕ → Policy → List ℕ
column_labels ts t d = tabulated (column_label_in ts t) (length (columns_at d t))

module _ (text ts : List ℕ) (k t : ℕ) (d : Policy) (h : Tables text ts k d.tables) (l : t < k) where
  -- the labelling, by the scheme that the code reads
  pub labelling_by : (s scheme : coded.Scheme) → (t < 8 → scheme_in ts t ≡ scheme_by s (table_label_in ts t) (column_labels_in ts t)) → s ≡ scheme
      → labelling_at d t ≡ settled (notes_of d.notes t) (scheme_by scheme (table_label_in ts t) (column_labels ts t d))
  unfolding labelling_at
  labelling_by s scheme is e = ap (settled (notes_of d.notes t)) (scheme_read_lem text ts k t d h l s is ∙ ap (λ (z : coded.Scheme). scheme_by z (table_label_in ts t) (column_labels ts t d)) e)

  -- whether it is nested is said by the scheme alone
  pub nested_by : (s : coded.Scheme) → (t < 8 → scheme_in ts t ≡ scheme_by s (table_label_in ts t) (column_labels_in ts t)) → (b : Bool) → ((m : ℕ) (ls : List ℕ) → b ≡ is_nested (scheme_by s m ls)) → b ≡ is_nested (labelling_at d t)
  nested_by s is b e = e (table_label_in ts t) (column_labels ts t d) ∙ sym (settled_nested (scheme_by s (table_label_in ts t) (column_labels ts t d))) ∙ ap is_nested (sym (labelling_by s s is refl))
    where
      settled_nested : (x : Scheme ℕ) → is_nested (settled (notes_of d.notes t) x) ≡ is_nested x
      settled_nested (unlabelled b) = unfold settled is_nested in refl
      settled_nested (by_table m) = unfold settled is_nested in refl
      settled_nested (by_column ls) = unfold settled is_nested in refl
      settled_nested by_row = unfold settled is_nested in refl
      settled_nested by_cell = unfold settled is_nested in refl
      settled_nested (nested w s) = unfold settled is_nested in refl

  -- a column's label, if the table has the column
  module _ (c n : ℕ) (cut : Cut 16 t 8 (column_count_in ts t) n) where
    pub column_labelled : c < n → (x : ℕ) → (t < 8 → c < 16 → x ≡ column_label_in ts t c) → some x ≡ get_elem? (column_labels ts t d) c
    column_labelled less x is = sym (column_label_read text ts k t d h l c (omega (arith, less, width_read text ts k t d h l n cut)) x is)

    pub column_unlabelled : n ≤ c → none ≡ get_elem? (column_labels ts t d) c
    column_unlabelled over = sym (element_none (column_labels ts t d) c (omega (arith, over, width_read text ts k t d h l n cut, length_tabulated (column_label_in ts t) (length (columns_at d t)))))

-- ---- the reason

-- of a table without labels: whether it is public
pub unlabelled_reason : (d : Policy) (p t : ℕ) (labels : List ℕ) (c : ℕ) → is_unlabelled (labelling_at d t) ≡ true
    → cell_reason d p (labelling_at d t) labels c ≡ cond (any_of is_public (notes_of d.notes t)) opened unlabelled_table
unfolding labelling_at
unlabelled_reason d p t labels c h = go (scheme_at d t) h
  where
    go : (s : Scheme ℕ) → is_unlabelled (settled (notes_of d.notes t) s) ≡ true → cell_reason d p (settled (notes_of d.notes t) s) labels c ≡ cond (any_of is_public (notes_of d.notes t)) opened unlabelled_table
    go (unlabelled b) e = unfold settled cell_reason in refl
    go (by_table m) e = absurd (true≢false (sym (unfold settled is_unlabelled in e)))
    go (by_column ls) e = absurd (true≢false (sym (unfold settled is_unlabelled in e)))
    go by_row e = absurd (true≢false (sym (unfold settled is_unlabelled in e)))
    go by_cell e = absurd (true≢false (sym (unfold settled is_unlabelled in e)))
    go (nested w s) e = absurd (true≢false (sym (unfold settled is_unlabelled in e)))

-- of another: what the label meant says
pub meant_reason : (d : Policy) (p : ℕ) (s : Scheme ℕ) (labels : List ℕ) (c : ℕ) → is_unlabelled s ≡ false → is_nested s ≡ false → cell_reason d p s labels c ≡ reason_at d p (label_meant s labels c)
unfolding cell_reason label_meant is_unlabelled is_nested
meant_reason d p (unlabelled b) labels c u n = absurd (true≢false u)
meant_reason d p (by_table l) labels c u n = refl
meant_reason d p (by_column ls) labels c u n = refl
meant_reason d p by_row labels c u n = refl
meant_reason d p by_cell labels c u n = refl
meant_reason d p (nested w s) labels c u n = absurd (true≢false n)

-- where none is meant, none is allowed
pub no_label : (d : Policy) (p : ℕ) → reason_at d p none ≡ allows_none
unfolding reason_at
no_label d p = unfold bind in refl
