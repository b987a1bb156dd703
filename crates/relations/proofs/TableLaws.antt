-- The tables of the workspace: what stores leave, a table that grows, a table that is added, looking one up, and what stands at
-- one. Assumes nothing.
use Prim.Native.Nat.{◌*◌, ◌+◌, ◌<◌, ◌≤◌, suc, zero, ℕ}
use borrow.Author.Count.{below_more}
use lib.ListN.{get_or, get_elem?, length, length-set, set}
use lib.Seq.{get_or-set_other, get_or-set_same}
use mathlib.Core.Bool.{false}
use mathlib.Core.List.{List, [], ◌++◌, ◌∷◌}
use mathlib.Core.Option
use mathlib.Core.Option.{Option, map, none, some}
use mathlib.Core.Path.{◌∙◌, ◌≡◌, ap, refl, subst, sym}
use native.Mathlib.Omega.{arith}
use Rattle.condition.specs.Kinds.{Kind}
use Rattle.document.specs.Lookup.{column_of, columns_at, scheme_at, strong_in, weak_in}
use Rattle.document.specs.Policy.{Column, Policy, Table}
use Rattle.form.specs.Form.{Note, Scheme, nested, strong, unlabelled, weak}
use Rattle.workspace.specs.Cells.{kind_of_cell}
use Rattle.workspace.specs.Found.{FoundBelow}
use Rattle.relations.proofs.NoteLaws.{notes_kept, notes_public, notes_strong, notes_table, notes_weak}
use Rattle.relations.specs.Notes.{note_in}
use Rattle.relations.specs.Tables.{ColumnStored, Cut, Filling, LabelNoted, PublicStored, TableAdded, Tables, column_count_in, column_in, column_kind_in, column_label_in, column_labels_in, scheme_by, scheme_in, scheme_of_cell, table_in, table_label_in}
use Rattle.workspace.specs.Tabulated.{tabulated}
use Rattle.std.specs.Prelude as prelude
use Rattle.std.specs.Prelude.{None, Some}
use Rattle.form.specs.declared.lines.Scheme as coded
use Rattle.workspace.proofs.CellLaws.{kept_3, kept_4}
use Rattle.workspace.proofs.Finding.{found_first, found_from}
use Rattle.workspace.proofs.TabulatedLaws.{length_tabulated, tabulated_at, tabulated_pushed, tabulated_same}
use Rattle.lists.specs.Lists.{find_index}
use Rattle.text.specs.Words.{Word, is_called, word_at}

-- ---- numbers for schemes

-- any number over 4 stands for nested labels
by_nest : (n l : ℕ) (ls : List ℕ) → (n ≡ 0 → ⊥) → (n ≡ 1 → ⊥) → (n ≡ 2 → ⊥) → (n ≡ 3 → ⊥) → (n ≡ 4 → ⊥) → scheme_of_cell n l ls ≡ nested none none
unfolding scheme_of_cell
by_nest zero l ls a b c d e = absurd (a refl)
by_nest (suc zero) l ls a b c d e = absurd (b refl)
by_nest (suc (suc zero)) l ls a b c d e = absurd (c refl)
by_nest (suc (suc (suc zero))) l ls a b c d e = absurd (d refl)
by_nest (suc (suc (suc (suc zero)))) l ls a b c d e = absurd (e refl)
by_nest (suc (suc (suc (suc (suc n))))) l ls a b c d e = refl

module _ (ws : List ℕ) (t : ℕ) where
  -- a scheme by its number
  pub scheme_number : (n : ℕ) → get_or ws (8 + t) 0 ≡ n → scheme_in ws t ≡ scheme_of_cell n (get_or ws (16 + t) 0) (tabulated (column_label_in ws t) (get_or ws (24 + t) 0))
  unfolding scheme_in
  scheme_number n e = ap (λ m. scheme_of_cell m (get_or ws (16 + t) 0) (tabulated (column_label_in ws t) (get_or ws (24 + t) 0))) e

  pub scheme_over : let n = get_or ws (8 + t) 0 in (n ≡ 0 → ⊥) → (n ≡ 1 → ⊥) → (n ≡ 2 → ⊥) → (n ≡ 3 → ⊥) → (n ≡ 4 → ⊥) → scheme_in ws t ≡ nested none none
  unfolding scheme_in
  scheme_over a b c d e = by_nest (get_or ws (8 + t) 0) (get_or ws (16 + t) 0) (tabulated (column_label_in ws t) (get_or ws (24 + t) 0)) a b c d e

-- ---- what stores leave

-- the second array holds of table t what the first does
record SameTable (ws ws' : List ℕ) (t : ℕ) : Type 0 where
  name : get_or ws' t 0 ≡ get_or ws t 0
  scheme : get_or ws' (8 + t) 0 ≡ get_or ws (8 + t) 0
  label : get_or ws' (16 + t) 0 ≡ get_or ws (16 + t) 0
  width : get_or ws' (24 + t) 0 ≡ get_or ws (24 + t) 0
  column_name : (c : ℕ) → c < 16 → get_or ws' (32 + 16 * t + c) 0 ≡ get_or ws (32 + 16 * t + c) 0
  column_kind : (c : ℕ) → c < 16 → get_or ws' (160 + 16 * t + c) 0 ≡ get_or ws (160 + 16 * t + c) 0
  column_label : (c : ℕ) → c < 16 → get_or ws' (288 + 16 * t + c) 0 ≡ get_or ws (288 + 16 * t + c) 0

module _ (text ws ws' : List ℕ) where
  column_is : (t c : ℕ) (name : ℕ) (kind : Kind) → get_or ws' (32 + 16 * t + c) 0 ≡ name → kind_of_cell (get_or ws' (160 + 16 * t + c) 0) ≡ kind → column_in text ws' t c ≡ record { name = word_at text name; kind = kind }
  unfolding column_in
  column_is t c name kind a b = λ j. record { name = word_at text (a j); kind = b j }

  column_same : (t c : ℕ) → get_or ws' (32 + 16 * t + c) 0 ≡ get_or ws (32 + 16 * t + c) 0 → get_or ws' (160 + 16 * t + c) 0 ≡ get_or ws (160 + 16 * t + c) 0 → column_in text ws' t c ≡ column_in text ws t c
  unfolding column_in
  column_same t c a b = column_is t c (get_or ws (32 + 16 * t + c) 0) (kind_of_cell (get_or ws (160 + 16 * t + c) 0)) a (ap kind_of_cell b)

  table_same : (t : ℕ) → SameTable ws ws' t → get_or ws (24 + t) 0 ≤ 16 → table_in text ws' t ≡ table_in text ws t
  unfolding table_in scheme_in
  table_same t s n = λ j. record {
    name = word_at text (s.name j);
    scheme = scheme_of_cell (s.scheme j) (s.label j) (labels j);
    columns = columns j;
  }
    where
      labels : tabulated (column_label_in ws' t) (get_or ws' (24 + t) 0) ≡ tabulated (column_label_in ws t) (get_or ws (24 + t) 0)
      labels =
          ap (tabulated (column_label_in ws' t)) s.width
          ∙ tabulated_same (column_label_in ws' t) (column_label_in ws t) (get_or ws (24 + t) 0) (λ c l. s.column_label c (omega (arith, l, n)))

      columns : tabulated (column_in text ws' t) (get_or ws' (24 + t) 0) ≡ tabulated (column_in text ws t) (get_or ws (24 + t) 0)
      columns =
          ap (tabulated (column_in text ws' t)) s.width
          ∙ tabulated_same (column_in text ws' t) (column_in text ws t) (get_or ws (24 + t) 0) (λ c l. column_same t c (s.column_name c (omega (arith, l, n))) (s.column_kind c (omega (arith, l, n))))

  tables_same : (k : ℕ) (ts : List Table) → ((t : ℕ) → t < k → SameTable ws ws' t) → Tables text ws k ts → Tables text ws' k ts
  tables_same k ts s h = record {
    few = h.few;
    narrow = λ t l. subst (λ (n : ℕ). n ≤ 16) (sym (s t l).width) (h.narrow t l);
    are = tabulated_same (table_in text ws') (table_in text ws) k (λ t l. table_same t (s t l) (h.narrow t l)) ∙ h.are;
  }

-- a store behind all that stands for tables
stored_behind : (text ws : List ℕ) (n v k : ℕ) (ts : List Table) → 416 ≤ n → Tables text ws k ts → Tables text (set ws n v) k ts
stored_behind text ws n v k ts far h = tables_same text ws (set ws n v) k ts (λ t l. record {
  name = get_or-set_other ws n t v 0 (λ e. omega (arith, e, far, l, h.few));
  scheme = get_or-set_other ws n (8 + t) v 0 (λ e. omega (arith, e, far, l, h.few));
  label = get_or-set_other ws n (16 + t) v 0 (λ e. omega (arith, e, far, l, h.few));
  width = get_or-set_other ws n (24 + t) v 0 (λ e. omega (arith, e, far, l, h.few));
  column_name = λ c b. get_or-set_other ws n (32 + 16 * t + c) v 0 (λ e. omega (arith, e, far, l, b, h.few));
  column_kind = λ c b. get_or-set_other ws n (160 + 16 * t + c) v 0 (λ e. omega (arith, e, far, l, b, h.few));
  column_label = λ c b. get_or-set_other ws n (288 + 16 * t + c) v 0 (λ e. omega (arith, e, far, l, b, h.few));
}) h

-- ---- a column is stored

module _ (ws : List ℕ) (t c pos kind label : ℕ) (long : length ws ≡ 440) (inside : t < 8) (s : c < 16) where
  abbrev w3 : List ℕ
  w3 = set (set (set ws (32 + 16 * t + c) pos) (160 + 16 * t + c) kind) (288 + 16 * t + c) label

  -- a place that is none of the three
  elsewhere : (n : ℕ) → ((b : ℕ) → b < 3 → n ≡ 32 + 128 * b + 16 * t + c → ⊥) → get_or w3 n 0 ≡ get_or ws n 0
  elsewhere n h =
      kept_3 ws (32 + 16 * t + c) (160 + 16 * t + c) (288 + 16 * t + c) pos kind label n (h 0 (omega arith)) (h 1 (omega arith)) (h 2 (omega arith))

  before_same : (q : ℕ) → q < t → SameTable ws w3 q
  before_same q l = record {
    name = elsewhere q (λ b m e. omega (arith, e, m, l, inside, s));
    scheme = elsewhere (8 + q) (λ b m e. omega (arith, e, m, l, inside, s));
    label = elsewhere (16 + q) (λ b m e. omega (arith, e, m, l, inside, s));
    width = elsewhere (24 + q) (λ b m e. omega (arith, e, m, l, inside, s));
    column_name = λ d n. elsewhere (32 + 16 * q + d) (λ b m e. omega (arith, e, m, l, n, inside, s));
    column_kind = λ d n. elsewhere (160 + 16 * q + d) (λ b m e. omega (arith, e, m, l, n, inside, s));
    column_label = λ d n. elsewhere (288 + 16 * q + d) (λ b m e. omega (arith, e, m, l, n, inside, s));
  }

  pub column_stored : (type : Kind) → kind_of_cell kind ≡ type → ColumnStored ws w3 t c pos type label
  column_stored type is = record {
    kept = λ text k ts l h. tables_same text ws w3 k ts (λ q b. before_same q (omega (arith, b, l))) h;
    noted = λ k ns h. notes_kept (λ q l a i. elsewhere (416 + 8 * a + q) (λ b m e. omega (arith, e, m, inside, s))) h;
    grown = λ text cs ls l m h. record {
      few = omega (arith, s);
      columns =
          tabulated_pushed (column_in text ws t) (column_in text w3 t) c cs (record { name = word_at text pos; kind = type }) h.columns
          (λ n b. column_same text ws w3 t n (elsewhere (32 + 16 * t + n) (λ d p e. omega (arith, e, p, b, s))) (elsewhere (160 + 16 * t + n) (λ d p e. omega (arith, e, p, b, s))))
          (column_is text ws w3 t c pos type
          (get_or-set_other w2 (288 + 16 * t + c) (32 + 16 * t + c) label 0 (λ e. omega (arith, e))
          ∙ get_or-set_other w1 (160 + 16 * t + c) (32 + 16 * t + c) kind 0 (λ e. omega (arith, e))
          ∙ get_or-set_same ws (32 + 16 * t + c) pos 0 (omega (arith, long, inside, s)))
          (ap kind_of_cell
          (get_or-set_other w2 (288 + 16 * t + c) (160 + 16 * t + c) label 0 (λ e. omega (arith, e))
          ∙ get_or-set_same w1 (160 + 16 * t + c) kind 0 (omega (arith, long, inside, s, length-set ws (32 + 16 * t + c) pos)))
          ∙ is));
      labels =
          tabulated_pushed (column_label_in ws t) (column_label_in w3 t) c ls label h.labels
          (λ n b. elsewhere (288 + 16 * t + n) (λ d p e. omega (arith, e, p, b, s)))
          (get_or-set_same w2 (288 + 16 * t + c) label 0 (omega (arith, long, inside, s, length-set ws (32 + 16 * t + c) pos, length-set w1 (160 + 16 * t + c) kind)));
    };
  }
    where
      w1 : List ℕ
      w1 = set ws (32 + 16 * t + c) pos

      w2 : List ℕ
      w2 = set w1 (160 + 16 * t + c) kind

-- outside the array nothing is stored
pub no_column : (ws : List ℕ) (t c pos : ℕ) (kind : Kind) (label : ℕ) → (t < 8 → c < 16 → ⊥) → ColumnStored ws ws t c pos kind label
no_column ws t c pos kind label out = record { kept = λ text k ts l h. h; noted = λ k ns h. h; grown = λ text cs ls l s h. absurd (out l s) }

-- ---- a table is added

-- a table whose own entries are stored
table_counted : (text ws : List ℕ) (k pos number label c : ℕ) (scheme : Scheme ℕ) (ts : List Table) (cs : List Column) (ls : List ℕ) → k < 8 → Tables text ws k ts → Filling text ws k c cs ls
    → get_or ws k 0 ≡ pos
    → get_or ws (8 + k) 0 ≡ number
    → get_or ws (16 + k) 0 ≡ label
    → get_or ws (24 + k) 0 ≡ c
    → scheme_of_cell number label ls ≡ scheme
    → Tables text ws (k + 1) (ts ++ (record { name = word_at text pos; scheme = scheme; columns = cs } ∷ []))
unfolding table_in scheme_in
table_counted text ws k pos number label c scheme ts cs ls l h f en es el ec is = record {
  few = omega (arith, l);
  narrow = below_more (λ t. get_or ws (24 + t) 0 ≤ 16) k h.narrow (omega (arith, ec, f.few));
  are =
      tabulated_pushed (table_in text ws) (table_in text ws) k ts (record { name = word_at text pos; scheme = scheme; columns = cs }) h.are (λ t b. refl)
      ((λ j. record { name = word_at text (en j); scheme = scheme_of_cell (es j) (el j) (labels j); columns = columns j })
      ∙ ap (λ x. record { name = word_at text pos; scheme = x; columns = cs }) is);
}
  where
    labels : tabulated (column_label_in ws k) (get_or ws (24 + k) 0) ≡ ls
    labels = ap (tabulated (column_label_in ws k)) ec ∙ f.labels

    columns : tabulated (column_in text ws k) (get_or ws (24 + k) 0) ≡ cs
    columns = ap (tabulated (column_in text ws k)) ec ∙ f.columns

module _ (ws : List ℕ) (k pos number label c : ℕ) (long : length ws ≡ 440) (inside : k < 8) where
  abbrev w4 : List ℕ
  w4 = set (set (set (set ws k pos) (8 + k) number) (16 + k) label) (24 + k) c

  -- a place that is none of the four
  besides : (n : ℕ) → ((b : ℕ) → b < 4 → n ≡ 8 * b + k → ⊥) → get_or w4 n 0 ≡ get_or ws n 0
  besides n h =
      kept_4 ws k (8 + k) (16 + k) (24 + k) pos number label c n
      (λ e. h 0 (omega arith) (omega (arith, e)))
      (λ e. h 1 (omega arith) (omega (arith, e)))
      (λ e. h 2 (omega arith) (omega (arith, e)))
      (λ e. h 3 (omega arith) (omega (arith, e)))

  others_same : (q : ℕ) → q < k → SameTable ws w4 q
  others_same q l = record {
    name = besides q (λ b m e. omega (arith, e, m, l, inside));
    scheme = besides (8 + q) (λ b m e. omega (arith, e, m, l, inside));
    label = besides (16 + q) (λ b m e. omega (arith, e, m, l, inside));
    width = besides (24 + q) (λ b m e. omega (arith, e, m, l, inside));
    column_name = λ d n. besides (32 + 16 * q + d) (λ b m e. omega (arith, e, m, inside));
    column_kind = λ d n. besides (160 + 16 * q + d) (λ b m e. omega (arith, e, m, inside));
    column_label = λ d n. besides (288 + 16 * q + d) (λ b m e. omega (arith, e, m, inside));
  }

  filling_same : (text : List ℕ) (cs : List Column) (ls : List ℕ) → Filling text ws k c cs ls → Filling text w4 k c cs ls
  filling_same text cs ls f = record {
    few = f.few;
    columns =
        tabulated_same (column_in text w4 k) (column_in text ws k) c
        (λ n l. column_same text ws w4 k n (besides (32 + 16 * k + n) (λ b m e. omega (arith, e, m, inside))) (besides (160 + 16 * k + n) (λ b m e. omega (arith, e, m, inside))))
        ∙ f.columns;
    labels = tabulated_same (column_label_in w4 k) (column_label_in ws k) c (λ n l. besides (288 + 16 * k + n) (λ b m e. omega (arith, e, m, inside))) ∙ f.labels;
  }

  table_added : (text : List ℕ) (scheme : Scheme ℕ) (ts : List Table) (cs : List Column) (ls : List ℕ) → scheme_of_cell number label ls ≡ scheme → Tables text ws k ts → Filling text ws k c cs ls
      → Tables text w4 (k + 1) (ts ++ (record { name = word_at text pos; scheme = scheme; columns = cs } ∷ []))
  table_added text scheme ts cs ls is h f =
      table_counted text w4 k pos number label c scheme ts cs ls inside (tables_same text ws w4 k ts others_same h) (filling_same text cs ls f)
      (get_or-set_other w3 (24 + k) k c 0 (λ e. omega (arith, e))
      ∙ get_or-set_other w2 (16 + k) k label 0 (λ e. omega (arith, e))
      ∙ get_or-set_other w1 (8 + k) k number 0 (λ e. omega (arith, e))
      ∙ get_or-set_same ws k pos 0 (omega (arith, long, inside)))
      (get_or-set_other w3 (24 + k) (8 + k) c 0 (λ e. omega (arith, e))
      ∙ get_or-set_other w2 (16 + k) (8 + k) label 0 (λ e. omega (arith, e))
      ∙ get_or-set_same w1 (8 + k) number 0 (omega (arith, long, inside, length-set ws k pos)))
      (get_or-set_other w3 (24 + k) (16 + k) c 0 (λ e. omega (arith, e))
      ∙ get_or-set_same w2 (16 + k) label 0 (omega (arith, long, inside, length-set ws k pos, length-set w1 (8 + k) number)))
      (get_or-set_same w3 (24 + k) c 0 (omega (arith, long, inside, length-set ws k pos, length-set w1 (8 + k) number, length-set w2 (16 + k) label)))
      is
    where
      w1 : List ℕ
      w1 = set ws k pos

      w2 : List ℕ
      w2 = set w1 (8 + k) number

      w3 : List ℕ
      w3 = set w2 (16 + k) label

  abbrev w7 : List ℕ
  w7 = set (set (set w4 (416 + k) 0) (424 + k) 0) (432 + k) 0

  long_kept : length w4 ≡ length ws
  long_kept =
      length-set (set (set (set ws k pos) (8 + k) number) (16 + k) label) (24 + k) c
      ∙ length-set (set (set ws k pos) (8 + k) number) (16 + k) label
      ∙ length-set (set ws k pos) (8 + k) number
      ∙ length-set ws k pos

  note_none : (b : ℕ) → b < 3 → note_in w7 b k ≡ 0
  note_none zero m =
      get_or-set_other (set (set w4 (416 + k) 0) (424 + k) 0) (432 + k) (416 + k) 0 0 (λ e. omega (arith, e))
      ∙ get_or-set_other (set w4 (416 + k) 0) (424 + k) (416 + k) 0 0 (λ e. omega (arith, e))
      ∙ get_or-set_same w4 (416 + k) 0 0 (omega (arith, long, inside, long_kept))
  note_none (suc zero) m =
      get_or-set_other (set (set w4 (416 + k) 0) (424 + k) 0) (432 + k) (424 + k) 0 0 (λ e. omega (arith, e))
      ∙ get_or-set_same (set w4 (416 + k) 0) (424 + k) 0 0 (omega (arith, long, inside, long_kept, length-set w4 (416 + k) 0))
  note_none (suc (suc zero)) m =
      get_or-set_same (set (set w4 (416 + k) 0) (424 + k) 0) (432 + k) 0 0 (omega (arith, long, inside, long_kept, length-set w4 (416 + k) 0, length-set (set w4 (416 + k) 0) (424 + k) 0))
  note_none (suc (suc (suc b))) m = absurd (omega (arith, m))

  notes_before : (q : ℕ) → q < k → (b : ℕ) → b < 3 → note_in w7 b q ≡ note_in ws b q
  notes_before q l b m =
      kept_3 w4 (416 + k) (424 + k) (432 + k) 0 0 0 (416 + 8 * b + q) (λ e. omega (arith, e, l, m, inside)) (λ e. omega (arith, e, l, m, inside)) (λ e. omega (arith, e, l, m, inside))
      ∙ besides (416 + 8 * b + q) (λ b m e. omega (arith, e, m, inside))

  pub added : (scheme : coded.Scheme) → ((ls : List ℕ) → scheme_of_cell number label ls ≡ scheme_by scheme label ls) → TableAdded ws w7 k pos scheme label c
  added scheme is = record {
    grown = λ text ts cs ls h l f.
        stored_behind text (set (set w4 (416 + k) 0) (424 + k) 0) (432 + k) 0 (k + 1) _ (omega arith)
        (stored_behind text (set w4 (416 + k) 0) (424 + k) 0 (k + 1) _ (omega arith)
        (stored_behind text w4 (416 + k) 0 (k + 1) _ (omega arith) (table_added text (scheme_by scheme label ls) ts cs ls (is ls) h f)));
    noted = λ ns l h. notes_table notes_before note_none h;
  }

-- outside the array no table is added
pub not_added : (ws : List ℕ) (k pos : ℕ) (scheme : coded.Scheme) (label c : ℕ) → (k < 8 → ⊥) → TableAdded ws ws k pos scheme label c
not_added ws k pos scheme label c out = record { grown = λ text ts cs ls h l f. absurd (out l); noted = λ ns l h. absurd (out l) }

-- ---- a table is declared public

pub public_stored : (ws : List ℕ) (t : ℕ) → length ws ≡ 440 → PublicStored ws (set ws (416 + t) 1) t
public_stored ws t long = record {
  kept = λ text k ts h. stored_behind text ws (416 + t) 1 k ts (omega arith) h;
  noted = λ k ns l few h. notes_public ws t k ns long l few h;
}

-- ---- a table gets a weak or a strong label

pub weak_stored : (ws : List ℕ) (t l : ℕ) → length ws ≡ 440 → LabelNoted ws (set ws (424 + t) (l + 1)) t (weak l) weak_in
weak_stored ws t l long = record {
  kept = λ text k ts h. stored_behind text ws (424 + t) (l + 1) k ts (omega arith) h;
  noted = λ k ns i few new h. notes_weak ws t k ns long i few h l new;
}

pub strong_stored : (ws : List ℕ) (t l : ℕ) → length ws ≡ 440 → LabelNoted ws (set ws (432 + t) (l + 1)) t (strong l) strong_in
strong_stored ws t l long = record {
  kept = λ text k ts h. stored_behind text ws (432 + t) (l + 1) k ts (omega arith) h;
  noted = λ k ns i few new h. notes_strong ws t k ns long i few h l new;
}

pub not_labelled : (ws : List ℕ) (t : ℕ) (n : Note ℕ) (f : Note ℕ → Option ℕ) → (t < 8 → ⊥) → LabelNoted ws ws t n f
not_labelled ws t n f out = record { kept = λ text k ts h. h; noted = λ k ns l few new h. absurd (out (omega (arith, l, few))) }

-- outside the array nothing is declared
pub not_public : (ws : List ℕ) (t : ℕ) → (t < 8 → ⊥) → PublicStored ws ws t
not_public ws t out = record { kept = λ text k ts h. h; noted = λ k ns l few h. absurd (out (omega (arith, l, few))) }

-- before any table
pub no_tables : (text ws : List ℕ) → Tables text ws 0 []
unfolding tabulated
no_tables text ws = record { few = omega arith; narrow = λ t l. absurd (omega (arith, l)); are = refl }

-- before any column of a table
pub table_empty : (text ws : List ℕ) (t : ℕ) → Filling text ws t 0 [] []
unfolding tabulated
table_empty text ws t = record { few = omega arith; columns = refl; labels = refl }

-- ---- looking one up

-- a table
pub table_found : {text ws : List ℕ} {k : ℕ} {ts : List Table} (w : Word) → Tables text ws k ts
    → find_index (λ p. is_called w (word_at text p)) (tabulated (λ i. get_or ws (0 + i) 0) k) ≡ find_index (λ x. is_called w x.name) ts
unfolding table_in
table_found {text} {ws} {k} {ts} w h = found_first (is_called w) (λ x. x.name) text ws (table_in text ws) k ts (λ i. refl) h.are

-- a column of a table, among as many as the code reads
pub column_found : (text ws : List ℕ) (k t n : ℕ) (ts : List Table) (w : Word) → Tables text ws k ts → t < k → Cut 16 t 8 (get_or ws (24 + t) 0) n
    → find_index (λ p. is_called w (word_at text p)) (tabulated (λ i. get_or ws (32 + 16 * t + i) 0) n) ≡ column_of (tabulated (column_in text ws t) (get_or ws (24 + t) 0)) w
unfolding column_in column_of
column_found text ws k t n ts w h l cut =
    found_from (is_called w) (λ x. x.name) text ws (column_in text ws t) n (32 + 16 * t) (tabulated (column_in text ws t) (get_or ws (24 + t) 0)) (λ i. refl)
    (ap (tabulated (column_in text ws t)) (cut.is (omega (arith, l, h.few)) (h.narrow t l)))

pub below_wider : (r : prelude.Option ℕ) (n m : ℕ) → n ≤ m → FoundBelow r n → FoundBelow r m
below_wider None n m l b = tt
below_wider (Some i) n m l b = omega (arith, l, b)

-- ---- what stands at a table

pub tables_counted : (text ws : List ℕ) (k : ℕ) (ts : List Table) → Tables text ws k ts → length ts ≡ k
tables_counted text ws k ts h = ap length (sym h.are) ∙ length_tabulated (table_in text ws) k

pub table_at : (text ws : List ℕ) (k : ℕ) (ts : List Table) → Tables text ws k ts → (t : ℕ) → t < k → get_elem? ts t ≡ some (table_in text ws t)
table_at text ws k ts h t l = ap (λ xs. get_elem? xs t) (sym h.are) ∙ tabulated_at (table_in text ws) k t l

module _ (text ws : List ℕ) (k t : ℕ) (d : Policy) (h : Tables text ws k d.tables) (l : t < k) where
  pub scheme_at_lem : scheme_at d t ≡ scheme_in ws t
  unfolding scheme_at table_in
  scheme_at_lem = ap (λ o. Option.get_or (map (λ x. x.scheme) o) (unlabelled false)) (table_at text ws k d.tables h t l)

  pub columns_at_lem : columns_at d t ≡ tabulated (column_in text ws t) (get_or ws (24 + t) 0)
  unfolding columns_at table_in
  columns_at_lem = ap (λ o. Option.get_or (map (λ x. x.columns) o) []) (table_at text ws k d.tables h t l)

  pub table_inside : t < 8
  table_inside = omega (arith, l, h.few)

  columns_count : length (columns_at d t) ≡ get_or ws (24 + t) 0
  columns_count = ap length columns_at_lem ∙ length_tabulated (column_in text ws t) (get_or ws (24 + t) 0)

  -- what the code reads of the table: each law takes what the function of that name gives
  pub width_read : (n : ℕ) → Cut 16 t 8 (column_count_in ws t) n → n ≡ length (columns_at d t)
  width_read n w = w.is table_inside (h.narrow t l) ∙ sym columns_count

  pub scheme_read_lem : (s : coded.Scheme) → (t < 8 → scheme_in ws t ≡ scheme_by s (table_label_in ws t) (column_labels_in ws t))
      → scheme_at d t ≡ scheme_by s (table_label_in ws t) (tabulated (column_label_in ws t) (length (columns_at d t)))
  scheme_read_lem s is =
      scheme_at_lem ∙ is table_inside ∙ ap (λ n. scheme_by s (table_label_in ws t) (tabulated (column_label_in ws t) n)) (sym columns_count)

  module _ (c : ℕ) (b : c < length (columns_at d t)) where
    pub column_inside : c < 16
    column_inside = omega (arith, b, columns_count, h.narrow t l)

    pub column_at_lem : get_elem? (columns_at d t) c ≡ some (column_in text ws t c)
    column_at_lem = ap (λ xs. get_elem? xs c) columns_at_lem ∙ tabulated_at (column_in text ws t) (get_or ws (24 + t) 0) c (omega (arith, b, columns_count))

    pub column_kind_read : (r : Kind) → (t < 8 → c < 16 → r ≡ column_kind_in ws t c) → map (λ x. x.kind) (get_elem? (columns_at d t) c) ≡ some r
    unfolding column_in
    column_kind_read r is = ap (map (λ x. x.kind)) column_at_lem ∙ ap some (sym (is table_inside column_inside))

    pub column_label_read : (x : ℕ) → (t < 8 → c < 16 → x ≡ column_label_in ws t c) → get_elem? (tabulated (column_label_in ws t) (length (columns_at d t))) c ≡ some x
    column_label_read x is = tabulated_at (column_label_in ws t) (length (columns_at d t)) c b ∙ ap some (sym (is table_inside column_inside))
