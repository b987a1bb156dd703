-- What of a table is closed to a purpose, by the labels and the numbers of the columns that the code reads. Assumes nothing.
use Prim.Native.Nat.{◌<◌, ◌≤◌, suc, zero, ℕ}
use Rattle.document.proofs.OpenLaws.{settled_column}
use Rattle.document.specs.Lookup.{column_of, columns_at, labelling_at, notes_of, scheme_at, settled}
use Rattle.document.specs.Open.{column_open, label_open, open_to, table_open}
use Rattle.document.specs.Policy.{Policy}
use Rattle.form.specs.declared.lines.Scheme as coded
use Rattle.lists.specs.Lists.{holds_of, or_zero}
use Rattle.query.specs.Naming.{words_at}
use Rattle.relations.proofs.LabelLaws.{said_open}
use Rattle.relations.proofs.TableLaws.{column_label_read, scheme_read_lem, width_read}
use Rattle.relations.specs.Labels.{Said, opened_in}
use Rattle.relations.specs.Tables.{Cut, Tables, column_count_in, column_label_in, column_labels_in, scheme_by, scheme_in, table_label_in}
use Rattle.resolving.proofs.TakenLaws.{mapped_at}
use Rattle.text.proofs.FirstOffending.{first_missing_lem, none_missing}
use Rattle.text.specs.Offending.{missing}
use Rattle.text.specs.Words.{Word, word_of}
use Rattle.workspace.proofs.TabulatedLaws.{length_tabulated}
use Rattle.workspace.specs.Tabulated.{tabulated}
use lib.ListN.{get_or, get_elem?, length, take}
use mathlib.Core.Bool.{Bool, false, true}
use mathlib.Core.List.{List, [], ◌∷◌, map}
use mathlib.Core.Option.{bind, none, some}
use mathlib.Core.Path.{◌∙◌, ◌≡◌, ap, refl, sym}
use native.Mathlib.Omega.{arith}

-- nothing stands past the end
past_end : {A : Type 0} (xs : List A) (i : ℕ) → length xs ≤ i → get_elem? xs i ≡ none
past_end [] i h = refl
past_end (x ∷ xs) zero h = absurd (omega (arith, h))
past_end (x ∷ xs) (suc i) h = past_end xs i (omega (arith, h))

-- a label that is not there is closed
no_label : (d : Policy) (p : ℕ) → label_open d p none ≡ false
unfolding label_open holds_of bind
no_label d p = refl

-- the labels of the columns of table t, as the array holds them
abbrev pub labels_in : List ℕ → ℕ → Policy → List ℕ
labels_in ws t d = tabulated (column_label_in ws t) (length (columns_at d t))

-- the label of the column of this name is open
abbrev pub open_at : List ℕ → ℕ → Policy → ℕ → Word → Bool
open_at ws t d p w = label_open d p (get_elem? (labels_in ws t d) (or_zero (column_of (columns_at d t) w)))

module _ (text ws : List ℕ) (k t : ℕ) (d : Policy) (p : ℕ) (h : Tables text ws k d.tables) (l : t < k) where
  -- a column's label, if the table has the column
  module _ (c n : ℕ) (cut : Cut 16 t 8 (column_count_in ws t) n) where
    pub column_there : c < n → (truths : List Bool) → Said d p truths → (x : ℕ) → (t < 8 → c < 16 → x ≡ column_label_in ws t c)
        → (b : Bool) → b ≡ opened_in truths x → b ≡ label_open d p (get_elem? (labels_in ws t d) c)
    column_there less truths o x is b e =
        e ∙ said_open o x ∙ ap (label_open d p) (sym (column_label_read text ws k t d h l c (omega (arith, less, width_read text ws k t d h l n cut)) x is))

    pub column_lacking : n ≤ c → false ≡ label_open d p (get_elem? (labels_in ws t d) c)
    column_lacking over =
        sym (ap (label_open d p) (past_end (labels_in ws t d) c (omega (arith, over, width_read text ws k t d h l n cut, length_tabulated (column_label_in ws t) (length (columns_at d t))))) ∙ no_label d p)

  -- what the scheme that the code reads leaves open
  module _ (s scheme : coded.Scheme) (is : t < 8 → scheme_in ws t ≡ scheme_by s (table_label_in ws t) (column_labels_in ws t)) (e : s ≡ scheme) where
    scheme_is : scheme_at d t ≡ scheme_by scheme (table_label_in ws t) (labels_in ws t d)
    scheme_is = scheme_read_lem text ws k t d h l s is ∙ ap (λ z. scheme_by z (table_label_in ws t) (labels_in ws t d)) e

    -- with the notes
    labelling_is : labelling_at d t ≡ settled (notes_of d.notes t) (scheme_by scheme (table_label_in ws t) (labels_in ws t d))
    unfolding labelling_at
    labelling_is = ap (settled (notes_of d.notes t)) scheme_is

    pub table_by : table_open (open_to d p) (labelling_at d t) ≡ table_open (open_to d p) (settled (notes_of d.notes t) (scheme_by scheme (table_label_in ws t) (labels_in ws t d)))
    table_by = ap (table_open (open_to d p)) labelling_is

    pub column_by : (c : ℕ) → column_open (open_to d p) (labelling_at d t) c ≡ column_open (open_to d p) (scheme_by scheme (table_label_in ws t) (labels_in ws t d)) c
    column_by c = ap (λ z. column_open (open_to d p) z c) labelling_is ∙ settled_column (open_to d p) (notes_of d.notes t) (scheme_by scheme (table_label_in ws t) (labels_in ws t d)) c

    pub columns_by_lem : (words : List Word)
        → missing (λ w. column_open (open_to d p) (labelling_at d t) (or_zero (column_of (columns_at d t) w))) words
        ≡ missing (λ w. column_open (open_to d p) (scheme_by scheme (table_label_in ws t) (labels_in ws t d)) (or_zero (column_of (columns_at d t) w))) words
    columns_by_lem words =
        ap (λ z. missing (λ w. column_open (open_to d p) z (or_zero (column_of (columns_at d t) w))) words) labelling_is
        ∙ (λ i. missing (λ w. settled_column (open_to d p) (notes_of d.notes t) (scheme_by scheme (table_label_in ws t) (labels_in ws t d)) (or_zero (column_of (columns_at d t) w)) i) words)

-- ---- the first closed column

-- what the loop is given of a document and a query: the table, which labels are open, and the numbers of the named columns
pub record Named (tables : List ℕ) (t : ℕ) (said : List Bool) (places : List ℕ) (n : ℕ) (columns : List ℕ) (d : Policy) (p : ℕ) (s : List ℕ) : Type 0 where
  pub text : List ℕ
  pub k : ℕ
  pub held : Tables text tables k d.tables
  pub inside : t < k
  pub long_places : n ≤ length places
  pub long_columns : n ≤ length columns
  pub labels : Said d p said
  pub are : take n columns ≡ map (λ w. or_zero (column_of (columns_at d t) w)) (words_at s n places)

module _ {tables : List ℕ} {t : ℕ} {said : List Bool} {places : List ℕ} {n : ℕ} {columns : List ℕ} {d : Policy} {p : ℕ} {s : List ℕ} (g : Named tables t said places n columns d p s) where
  -- what the code finds at a column's number
  pub open_found : (i : ℕ) → i < n → (b : Bool)
      → ((d : Policy) (text : List ℕ) (k p : ℕ) → Tables text tables k d.tables → t < k → Said d p said → b ≡ label_open d p (get_elem? (labels_in tables t d) (get_or columns i 0)))
      → b ≡ open_at tables t d p (word_of s (get_or places i 0))
  open_found i l b is =
      is d g.text g.k p g.held g.inside g.labels
      ∙ ap (λ c. label_open d p (get_elem? (labels_in tables t d) c))
      (mapped_at (λ (w : Word). or_zero (column_of (columns_at d t) w)) (word_of s) columns places n i l (omega (arith, l, g.long_columns)) (omega (arith, l, g.long_places)) g.are)

  pub first_closed : (i : ℕ) → i < n → ((j : ℕ) → j < i → open_at tables t d p (word_of s (get_or places j 0)) ≡ true) → open_at tables t d p (word_of s (get_or places i 0)) ≡ false
      → some (word_of s (get_or places i 0)) ≡ missing (open_at tables t d p) (words_at s n places)
  first_closed i l h e = sym (first_missing_lem (open_at tables t d p) (word_of s) places n i g.long_places l h e)

  pub none_closed : ((j : ℕ) → j < n → open_at tables t d p (word_of s (get_or places j 0)) ≡ true) → none ≡ missing (open_at tables t d p) (words_at s n places)
  none_closed h = sym (none_missing (open_at tables t d p) (word_of s) places n g.long_places h)
