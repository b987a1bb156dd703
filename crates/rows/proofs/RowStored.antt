-- The row that is stored is what its line adds: its values fit its table, and its scheme says where its labels stand. Assumes nothing.
use Prim.Native.Nat.{◌+◌, ◌<◌, ◌≤◌, ℕ}
use Rattle.document.proofs.RowItems.{labels_by, values_by}
use Rattle.document.specs.Bounds.{over_bound}
use Rattle.document.specs.Lookup.{columns_at, columns_of, label_of, scheme_of, table_of}
use Rattle.document.specs.Meaning.{add, row_meant, rows_given}
use Rattle.document.specs.NameFaults.{bracket_labels, leading_name, row_labels, unknown}
use Rattle.document.specs.Policy.{Doc, Policy, Row, Table}
use Rattle.document.specs.ValueFaults.{bracket_values, misfit, plain_values, row_values, shaped_values, values_behind_label}
use Rattle.form.specs.Form.{Item, Scheme, has_brackets, leads_label, row}
use Rattle.form.specs.Walks.{cells_at, items_at, plain_at}
use Rattle.form.specs.declared.lines.Scheme as coded
use Rattle.lists.proofs.ListLaws.{find_index_found, holds_of_some, map_map, there_some}
use Rattle.lists.proofs.Tests.{not-false}
use Rattle.lists.specs.Lists.{or_zero, there}
use Rattle.relations.proofs.RowLaws.{row_empty, rows_counted}
use Rattle.relations.proofs.TableLaws.{columns_at_lem, scheme_read_lem, tables_counted}
use Rattle.relations.specs.Rows.{FillingRow, LabelStored, Rows}
use Rattle.relations.specs.Tables.{Tables, column_count_in, column_in, column_label_in, column_labels_in, scheme_by, scheme_in, table_label_in}
use Rattle.rows.proofs.StoredItems.{bracket_labels_lem, bracket_values_lem, leading, plain_values_lem}
use Rattle.stepping.proofs.PassLaws.{Passed, passed}
use Rattle.stepping.specs.Stored.{Passes, RowFilled}
use Rattle.text.proofs.OffendingLaws.{leftmost_head, unless_none}
use Rattle.text.specs.Numbers.{Value}
use Rattle.text.specs.Walking.{word_end_at}
use Rattle.text.specs.Words.{Word, is_called, word_at, word_of}
use Rattle.workspace.proofs.TabulatedLaws.{length_tabulated}
use Rattle.workspace.specs.Tabulated.{tabulated}
use borrow.Author.Tests.{eqb-true, leb-false}
use lib.Dec.{eqb}
use lib.ListN.{get_or, length, length-map}
use mathlib.Core.Bool.{Bool, cond}
use mathlib.Core.List.{List, [], ◌++◌, ◌∷◌, append-nil, map}
use mathlib.Core.Option
use mathlib.Core.Option.{some}
use mathlib.Core.Path.{◌∙◌, ◌≡◌, ap, refl, subst, sym}
use native.Mathlib.Omega.{arith}

-- ---- the row by its table's scheme, as each function that stores one says it

-- what `add_row` promises
abbrev pub AddsRow : List ℕ → List ℕ → List ℕ → ℕ → ℕ → ℕ → ℕ → Type 0
AddsRow text mid after k table n m = (rs : List Row) (vs : List Value) (ls : List ℕ) → Rows text mid k rs → k < 1024 → FillingRow text mid k n m vs ls → Rows text after (k + 1) (rs ++ (record { table = table; values = vs; labels = ls } ∷ []))

-- where no label stood before the cells' labels
pub none_before : {text before after : List ℕ} {k n : ℕ} {vs : List Value} {ls : List ℕ} → RowFilled text before after k n (0 + n) vs ls → RowFilled text before after k n n vs ls
none_before {text} {before} {after} {k} {n} {vs} {ls} f = record { kept = f.kept; filling = subst (λ m. FillingRow text after k n m vs ls) (let e : 0 + n ≡ n = omega arith in e) f.filling }

module _ {text before mid after : List ℕ} {k table n : ℕ} (line : List ℕ) (is : ℕ) (rs : List Row) (ws : List Word) (N : Rows text before k rs) (small : k < 1024) (few : length ws ≤ 16) where
  pub plain_stored : plain_values (items_at line is) ≡ some ws
      → (length (plain_at line is) ≤ 16 → FillingRow text before k 0 0 [] [] → RowFilled text before mid k n 0 (map (λ w. w.bytes) (plain_at line is)) [])
      → AddsRow text mid after k table n 0
      → Rows text after (k + 1) (rs ++ (record { table = table; values = map (λ w. w.bytes) ws; labels = [] } ∷ []))
  plain_stored h filled more =
      let e : ws ≡ plain_at line is = plain_values_lem line is ws h in
      let f = filled (subst (λ (xs : List Word). length xs ≤ 16) e few) (row_empty text before k) in
      subst (λ (xs : List Word). Rows text after (k + 1) (rs ++ (record { table = table; values = map (λ w. w.bytes) xs; labels = [] } ∷ []))) (sym e)
      (more rs _ _ (f.kept rs N) small f.filling)

  pub cells_stored : (d : Policy) → bracket_values (items_at line is) ≡ some ws
      → (length (cells_at line is) ≤ 16 → RowFilled text before mid k n n (map (λ g. g.0.bytes) (cells_at line is)) (map (λ g. or_zero (label_of d g.1)) (cells_at line is)))
      → AddsRow text mid after k table n n
      → Rows text after (k + 1) (rs ++ (record { table = table; values = map (λ w. w.bytes) ws; labels = map (λ w. or_zero (label_of d w)) (bracket_labels (items_at line is)) } ∷ []))
  cells_stored d h filled more =
      let e : ws ≡ map (λ (g : Word × Word). g.0) (cells_at line is) = bracket_values_lem line is ws h in
      let f = filled (subst (λ m. m ≤ 16) (ap length e ∙ length-map (cells_at line is) (λ (g : Word × Word). g.0)) few) in
      subst (λ (x : Row). Rows text after (k + 1) (rs ++ (x ∷ [])))
      (λ j. record {
        table = table;
        values = sym (ap (map (λ (w : Word). w.bytes)) e ∙ map_map (λ (w : Word). w.bytes) (λ (g : Word × Word). g.0) (cells_at line is)) j;
        labels = sym (ap (map (λ (w : Word). or_zero (label_of d w))) (bracket_labels_lem line is ws h) ∙ map_map (λ (w : Word). or_zero (label_of d w)) (λ (g : Word × Word). g.1) (cells_at line is)) j;
      })
      (more rs _ _ (f.kept rs N) small f.filling)

  pub leading_stored : {marked : List ℕ} (d : Policy) (label e : ℕ) → values_behind_label plain_values (items_at line is) ≡ some ws → get_or line is 0 ≡ 32 → label ≡ or_zero (label_of d (word_of line (is + 1)))
      → LabelStored before marked k 0 label → e ≡ is + 1 + length (word_at line (is + 1))
      → (length (plain_at line e) ≤ 16 → FillingRow text marked k 0 1 [] (label ∷ []) → RowFilled text marked mid k n 1 (map (λ w. w.bytes) (plain_at line e)) (label ∷ []))
      → AddsRow text mid after k table n 1
      → Rows text after (k + 1) (rs ++ (record { table = table; values = map (λ w. w.bytes) ws; labels = map (λ w. or_zero (label_of d w)) (leading_name (items_at line is)) } ∷ []))
  unfolding word_end_at
  leading_stored d label e h space named s ends filled more =
      let g = leading plain_values line is ws h space in
      let v : ws ≡ plain_at line e = plain_values_lem line (word_end_at line (is + 1)) ws g.behind ∙ ap (plain_at line) (sym ends) in
      let f = filled (subst (λ (xs : List Word). length xs ≤ 16) v few) (s.grown text 0 [] [] small (omega arith) (row_empty text before k)) in
      subst (λ (x : Row). Rows text after (k + 1) (rs ++ (x ∷ [])))
      (λ j. record {
        table = table;
        values = map (λ (w : Word). w.bytes) (sym v j);
        labels = (ap (λ m. m ∷ []) named ∙ sym (ap (map (λ (w : Word). or_zero (label_of d w))) g.label)) j;
      })
      (more rs _ _ (f.kept rs (s.kept text k rs (omega arith) N)) small f.filling)

  pub nested_stored : {marked : List ℕ} {m : ℕ} (d : Policy) (label e : ℕ) → values_behind_label bracket_values (items_at line is) ≡ some ws → get_or line is 0 ≡ 32 → label ≡ or_zero (label_of d (word_of line (is + 1)))
      → LabelStored before marked k 0 label → e ≡ is + 1 + length (word_at line (is + 1))
      → (length (cells_at line e) ≤ 16 → FillingRow text marked k 0 1 [] (label ∷ []) → RowFilled text marked mid k n (1 + n) (map (λ g. g.0.bytes) (cells_at line e)) (label ∷ map (λ g. or_zero (label_of d g.1)) (cells_at line e)))
      → (n ≤ 16 → m ≡ n + 1) → AddsRow text mid after k table n m
      → Rows text after (k + 1) (rs ++ (record { table = table; values = map (λ w. w.bytes) ws; labels = map (λ w. or_zero (label_of d w)) (leading_name (items_at line is) ++ bracket_labels (items_at line is)) } ∷ []))
  unfolding word_end_at
  nested_stored {marked} {m} d label e h space named s ends filled counted more =
      let g = leading bracket_values line is ws h space in
      let b : bracket_values (items_at line e) ≡ some ws = ap (λ x. bracket_values (items_at line x)) ends ∙ g.behind in
      let v : ws ≡ map (λ (g : Word × Word). g.0) (cells_at line e) = bracket_values_lem line e ws b in
      let f = filled (subst (λ m. m ≤ 16) (ap length v ∙ length-map (cells_at line e) (λ (g : Word × Word). g.0)) few) (s.grown text 0 [] [] small (omega arith) (row_empty text before k)) in
      let same : 1 + n ≡ m = omega (arith, counted f.filling.few) in
      subst (λ (x : Row). Rows text after (k + 1) (rs ++ (x ∷ [])))
      (λ j. record {
        table = table;
        values = sym (ap (map (λ (w : Word). w.bytes)) v ∙ map_map (λ (w : Word). w.bytes) (λ (g : Word × Word). g.0) (cells_at line e)) j;
        labels = (ap (λ m. m ∷ map (λ (g : Word × Word). or_zero (label_of d g.1)) (cells_at line e)) named
            ∙ sym ((λ i. map (λ (w : Word). or_zero (label_of d w)) (g.label i ++ (g.brackets ∙ ap (λ x. bracket_labels (items_at line x)) (sym ends) ∙ bracket_labels_lem line e ws b) i))
            ∙ ap (λ ls. or_zero (label_of d (word_of line (is + 1))) ∷ ls) (map_map (λ (w : Word). or_zero (label_of d w)) (λ (g : Word × Word). g.1) (cells_at line e)))) j;
      })
      (more rs _ _ (f.kept rs (s.kept text k rs (omega arith) N)) small (subst (λ x. FillingRow text mid k n x (map (λ g. g.0.bytes) (cells_at line e)) (label ∷ map (λ g. or_zero (label_of d g.1)) (cells_at line e))) same f.filling))

-- ---- the row that its line adds

-- the words of the items are the row's values under the scheme s, which is that of the table
pub record RowFits (d : Doc) (t : Word) (items : List Item) (k : ℕ) (s : Scheme ℕ) : Type 0 where
  pub small : k < 1024
  pub words : List Word
  pub values : row_values s items ≡ some words
  pub few : length words ≤ 16
  pub is : scheme_of d.policy t ≡ s

module _ {text tables rows : List ℕ} {count k : ℕ} (d : Doc) (line : List ℕ) (t : Word) (items : List Item) (T : Tables text tables count d.policy.tables) (N : Rows text rows k d.rows) (ok : Passes d line (row t items)) where
  p : Passed d (row t items)
  p = passed d line (row t items) ok

  table_there : or_zero (table_of d.policy t) < count
  unfolding unknown table_of
  table_there =
      subst (λ n. or_zero (table_of d.policy t) < n) (tables_counted text tables count d.policy.tables T)
      (find_index_found (λ (x : Table). is_called t x.name) d.policy.tables (or_zero (table_of d.policy t)) (there_some (table_of d.policy t) (unless_none (there (table_of d.policy t)) t (leftmost_head _ _ p.knows)))).1

  pub row_fits : (n : ℕ) (r s : coded.Scheme) → n ≡ or_zero (table_of d.policy t) → r ≡ s → (n < 8 → scheme_in tables n ≡ scheme_by r (table_label_in tables n) (column_labels_in tables n))
      → RowFits d t items k (scheme_by s (table_label_in tables (or_zero (table_of d.policy t))) (tabulated (column_label_in tables (or_zero (table_of d.policy t))) (length (columns_at d.policy (or_zero (table_of d.policy t))))))
  unfolding misfit over_bound scheme_of columns_of
  row_fits n r s e same told =
      let m : ℕ = or_zero (table_of d.policy t) in
      let q = holds_of_some (λ (ws : List Word). eqb (length ws) (length (columns_of d.policy t))) (row_values (scheme_of d.policy t) items) (not-false _ p.fits) in
      let scheme = scheme_read_lem text tables count m d.policy T table_there s (subst (λ (x : ℕ × coded.Scheme). x.0 < 8 → scheme_in tables x.0 ≡ scheme_by x.1 (table_label_in tables x.0) (column_labels_in tables x.0)) (λ j. (e j, same j)) told) in
      let wide : length q.0 ≡ length (columns_at d.policy m) = eqb-true _ _ q.2 in
      let counted : length (columns_at d.policy m) ≡ column_count_in tables m = ap length (columns_at_lem text tables count m d.policy T table_there) ∙ length_tabulated (column_in text tables m) (column_count_in tables m) in
      record {
        small = subst (λ i. i < 1024) (rows_counted text rows k d.rows N) (leb-false 1024 _ p.room);
        words = q.0;
        values = sym (ap (λ x. row_values x items) scheme) ∙ q.1;
        few = omega (arith, wide, counted, T.narrow m table_there);
        is = scheme;
      }

-- with the labels that the scheme says
pub row_stored : {text rows' : List ℕ} {k : ℕ} (d : Doc) (t : Word) (items : List Item) (s : Scheme ℕ) (n : ℕ) (f : RowFits d t items k s) → n ≡ or_zero (table_of d.policy t)
    → Rows text rows' (k + 1) (d.rows ++ (record { table = n; values = map (λ w. w.bytes) f.words; labels = map (λ w. or_zero (label_of d.policy w)) (row_labels s items) } ∷ []))
    → Rows text rows' (k + 1) (add d (row t items)).rows
unfolding add rows_given row_meant
row_stored {text} {rows'} {k} d t items s n f e h =
    subst (λ (x : Row). Rows text rows' (k + 1) (d.rows ++ (x ∷ [])))
    (λ j. record {
      table = e j;
      values = map (λ (w : Word). w.bytes) (sym (ap (λ o. Option.get_or o []) (ap (λ x. row_values x items) f.is ∙ f.values)) j);
      labels = map (λ (w : Word). or_zero (label_of d.policy w)) (row_labels (sym f.is j) items);
    })
    h

-- ---- by the two marks of the scheme: whether its rows lead with a label (a), and whether they have brackets (b)

-- a row with these values and labels behind those of the document
abbrev pub Added : (text rows' : List ℕ) (k : ℕ) (d : Doc) (n : ℕ) (ws ls : List Word) → Type 0
Added text rows' k d n ws ls = Rows text rows' (k + 1) (d.rows ++ (record { table = n; values = map (λ w. w.bytes) ws; labels = map (λ w. or_zero (label_of d.policy w)) ls } ∷ []))

-- with a label in front and none behind it
pub led_alone : {text rows' : List ℕ} (k n : ℕ) (d : Doc) (items : List Item) (ws : List Word) → Added text rows' k d n ws (leading_name items) → Added text rows' k d n ws (leading_name items ++ [])
led_alone {text} {rows'} k n d items ws h = subst (λ (ls : List Word). Added text rows' k d n ws ls) (sym (append-nil (leading_name items))) h

module _ {text tables rows : List ℕ} {count k : ℕ} (d : Doc) (line : List ℕ) (t : Word) (items : List Item) (T : Tables text tables count d.policy.tables) (N : Rows text rows k d.rows) (ok : Passes d line (row t items)) where
  pub shape_stored : {rows' : List ℕ} {a b : Bool} (n : ℕ) (r : coded.Scheme) → n ≡ or_zero (table_of d.policy t) → (n < 8 → scheme_in tables n ≡ scheme_by r (table_label_in tables n) (column_labels_in tables n))
      → ((l : ℕ) (ls : List ℕ) → leads_label (scheme_by r l ls) ≡ a) → ((l : ℕ) (ls : List ℕ) → has_brackets (scheme_by r l ls) ≡ b)
      → ((ws : List Word) → k < 1024 → cond a (values_behind_label (shaped_values b) items) (shaped_values b items) ≡ some ws → length ws ≤ 16 → Added text rows' k d n ws (cond a (leading_name items) [] ++ cond b (bracket_labels items) []))
      → Rows text rows' (k + 1) (add d (row t items)).rows
  shape_stored {rows'} n r e told p q stored =
      let s : Scheme ℕ = scheme_by r (table_label_in tables (or_zero (table_of d.policy t))) (tabulated (column_label_in tables (or_zero (table_of d.policy t))) (length (columns_at d.policy (or_zero (table_of d.policy t))))) in
      let f : RowFits d t items k s = row_fits d line t items T N ok n r r e refl told in
      row_stored d t items s n f e
      (subst (λ (ls : List Word). Added text rows' k d n f.words ls) (sym (labels_by s (p _ _) (q _ _) items))
      (stored f.words f.small (sym (values_by s (p _ _) (q _ _) items) ∙ f.values) f.few))
