-- The rows of the workspace: what stores leave, a row that grows, a row that is added, and what stands at one. Assumes nothing.
use Prim.Native.Nat.{◌*◌, ◌+◌, ◌<◌, ◌≤◌, suc, zero, ℕ}
use borrow.Author.Tests.{eq-eqb, eqb-false, eqb-true, ne_eqb}
use lib.Dec.{eqb}
use mathlib.Core.Bool.{Bool, ◌||◌, false, or_assoc, or-false, true}
use Rattle.lists.proofs.Tests.{or_left, or_right}
use Rattle.lists.specs.Lists.{any_of}
use borrow.Author.Count.{below_more}
use lib.ListN.{get_or, get_elem?, length, length-set, set}
use lib.Seq.{get_or-set_other, get_or-set_same}
use mathlib.Core.List.{List, [], ◌++◌, ◌∷◌}
use mathlib.Core.Option.{some}
use mathlib.Core.Path.{◌∙◌, ◌≡◌, ap, refl, subst, sym}
use native.Mathlib.Omega.{arith}
use Rattle.document.specs.Policy.{Row}
use Rattle.relations.specs.Rows.{FillingRow, LabelStored, Rows, ValueStored, label_count_in, label_room, row_in, row_label_in, value_count_in, value_in, value_place_in}
use Rattle.relations.specs.Tables.{Cut}
use Rattle.workspace.specs.Tabulated.{tabulated}
use Rattle.workspace.proofs.CellLaws.{kept_3}
use Rattle.workspace.proofs.TabulatedLaws.{length_tabulated, tabulated_at, tabulated_pushed, tabulated_same, tabulated_there}
use Rattle.text.specs.Numbers.{Value}
use Rattle.text.specs.Words.{written_at}

-- ---- what stores leave

-- the second array holds of row r what the first does
record SameRow (ws ws' : List ℕ) (r : ℕ) : Type 0 where
  table : get_or ws' r 0 ≡ get_or ws r 0
  width : get_or ws' (1024 + r) 0 ≡ get_or ws (1024 + r) 0
  marks : get_or ws' (2048 + r) 0 ≡ get_or ws (2048 + r) 0
  value : (c : ℕ) → c < 16 → get_or ws' (3072 + 16 * r + c) 0 ≡ get_or ws (3072 + 16 * r + c) 0
  label : (c : ℕ) → c < label_room → get_or ws' (19456 + 17 * r + c) 0 ≡ get_or ws (19456 + 17 * r + c) 0

module _ (text ws ws' : List ℕ) where
  row_same : (r : ℕ) → SameRow ws ws' r → get_or ws (1024 + r) 0 ≤ 16 → get_or ws (2048 + r) 0 ≤ label_room → row_in text ws' r ≡ row_in text ws r
  unfolding row_in
  row_same r s n m = λ j. record { table = s.table j; values = values j; labels = labels j }
    where
      values : tabulated (value_in text ws' r) (get_or ws' (1024 + r) 0) ≡ tabulated (value_in text ws r) (get_or ws (1024 + r) 0)
      values =
          ap (tabulated (value_in text ws' r)) s.width
          ∙ tabulated_same (value_in text ws' r) (value_in text ws r) (get_or ws (1024 + r) 0) (λ c l. ap (written_at text) (s.value c (omega (arith, l, n))))

      labels : tabulated (row_label_in ws' r) (get_or ws' (2048 + r) 0) ≡ tabulated (row_label_in ws r) (get_or ws (2048 + r) 0)
      labels =
          ap (tabulated (row_label_in ws' r)) s.marks
          ∙ tabulated_same (row_label_in ws' r) (row_label_in ws r) (get_or ws (2048 + r) 0) (λ c l. s.label c (omega (arith, l, m)))

  rows_same : (k : ℕ) (rs : List Row) → ((r : ℕ) → r < k → SameRow ws ws' r) → Rows text ws k rs → Rows text ws' k rs
  rows_same k rs s h = record {
    few = h.few;
    narrow = λ r l. subst (λ (n : ℕ). n ≤ 16) (sym (s r l).width) (h.narrow r l);
    marked = λ r l. subst (λ (n : ℕ). n ≤ label_room) (sym (s r l).marks) (h.marked r l);
    are = tabulated_same (row_in text ws') (row_in text ws) k (λ r l. row_same r (s r l) (h.narrow r l) (h.marked r l)) ∙ h.are;
  }

-- ---- a value or a label is stored

module _ (ws : List ℕ) (r : ℕ) (long : length ws ≡ 36864) (inside : r < 1024) where
  -- a store at a value of row r leaves the rows before it
  value_before : (c v : ℕ) → c < 16 → (q : ℕ) → q < r → SameRow ws (set ws (3072 + 16 * r + c) v) q
  value_before c v s q l = record {
    table = get_or-set_other ws (3072 + 16 * r + c) q v 0 (λ e. omega (arith, e, l, inside));
    width = get_or-set_other ws (3072 + 16 * r + c) (1024 + q) v 0 (λ e. omega (arith, e, l, inside));
    marks = get_or-set_other ws (3072 + 16 * r + c) (2048 + q) v 0 (λ e. omega (arith, e, l, inside));
    value = λ d n. get_or-set_other ws (3072 + 16 * r + c) (3072 + 16 * q + d) v 0 (λ e. omega (arith, e, l, n));
    label = λ d n. get_or-set_other ws (3072 + 16 * r + c) (19456 + 17 * q + d) v 0 (λ e. omega (arith, e, inside, s));
  }

  -- so does one at a label
  label_before : (c v : ℕ) → (q : ℕ) → q < r → SameRow ws (set ws (19456 + 17 * r + c) v) q
  label_before c v q l = record {
    table = get_or-set_other ws (19456 + 17 * r + c) q v 0 (λ e. omega (arith, e, l, inside));
    width = get_or-set_other ws (19456 + 17 * r + c) (1024 + q) v 0 (λ e. omega (arith, e, l, inside));
    marks = get_or-set_other ws (19456 + 17 * r + c) (2048 + q) v 0 (λ e. omega (arith, e, l, inside));
    value = λ d n. get_or-set_other ws (19456 + 17 * r + c) (3072 + 16 * q + d) v 0 (λ e. omega (arith, e, l, n, inside));
    label = λ d n. get_or-set_other ws (19456 + 17 * r + c) (19456 + 17 * q + d) v 0 (λ e. omega (arith, e, l, n));
  }

  pub value_stored : (c pos : ℕ) → c < 16 → ValueStored ws (set ws (3072 + 16 * r + c) pos) r c pos
  value_stored c pos s = record {
    kept = λ text k rs l h. rows_same text ws (set ws (3072 + 16 * r + c) pos) k rs (λ q b. value_before c pos s q (omega (arith, b, l))) h;
    grown = λ text m vs ls l s' h. record {
      few = omega (arith, s);
      few_labels = h.few_labels;
      values =
          tabulated_pushed (value_in text ws r) (value_in text (set ws (3072 + 16 * r + c) pos) r) c vs (written_at text pos) h.values
          (λ n b. ap (written_at text) (get_or-set_other ws (3072 + 16 * r + c) (3072 + 16 * r + n) pos 0 (λ e. omega (arith, e, b))))
          (ap (written_at text) (get_or-set_same ws (3072 + 16 * r + c) pos 0 (omega (arith, long, inside, s))));
      labels =
          tabulated_same (row_label_in (set ws (3072 + 16 * r + c) pos) r) (row_label_in ws r) m
          (λ n b. get_or-set_other ws (3072 + 16 * r + c) (19456 + 17 * r + n) pos 0 (λ e. omega (arith, e, inside, s)))
          ∙ h.labels;
    };
  }

  pub label_stored : (m label : ℕ) → m < label_room → LabelStored ws (set ws (19456 + 17 * r + m) label) r m label
  label_stored m label s = record {
    kept = λ text k rs l h. rows_same text ws (set ws (19456 + 17 * r + m) label) k rs (λ q b. label_before m label q (omega (arith, b, l))) h;
    grown = λ text c vs ls l s' h. record {
      few = h.few;
      few_labels = omega (arith, s);
      values =
          tabulated_same (value_in text (set ws (19456 + 17 * r + m) label) r) (value_in text ws r) c
          (λ n b. ap (written_at text) (get_or-set_other ws (19456 + 17 * r + m) (3072 + 16 * r + n) label 0 (λ e. omega (arith, e, inside, b, h.few))))
          ∙ h.values;
      labels =
          tabulated_pushed (row_label_in ws r) (row_label_in (set ws (19456 + 17 * r + m) label) r) m ls label h.labels
          (λ n b. get_or-set_other ws (19456 + 17 * r + m) (19456 + 17 * r + n) label 0 (λ e. omega (arith, e, b)))
          (get_or-set_same ws (19456 + 17 * r + m) label 0 (omega (arith, long, inside, s)));
    };
  }

-- outside the array nothing is stored
pub no_value_lem : (ws : List ℕ) (r c pos : ℕ) → (r < 1024 → c < 16 → ⊥) → ValueStored ws ws r c pos
no_value_lem ws r c pos out = record { kept = λ text k rs l h. h; grown = λ text m vs ls l s h. absurd (out l s) }

pub no_label : (ws : List ℕ) (r m label : ℕ) → (r < 1024 → m < label_room → ⊥) → LabelStored ws ws r m label
no_label ws r m label out = record { kept = λ text k rs l h. h; grown = λ text c vs ls l s h. absurd (out l s) }

-- ---- a row is added

-- a row whose own entries are stored
row_counted : (text ws : List ℕ) (k table c m : ℕ) (rs : List Row) (vs : List Value) (ls : List ℕ) → k < 1024 → Rows text ws k rs → FillingRow text ws k c m vs ls
    → get_or ws k 0 ≡ table
    → get_or ws (1024 + k) 0 ≡ c
    → get_or ws (2048 + k) 0 ≡ m
    → Rows text ws (k + 1) (rs ++ (record { table = table; values = vs; labels = ls } ∷ []))
unfolding row_in
row_counted text ws k table c m rs vs ls l h f et ec em = record {
  few = omega (arith, l);
  narrow = below_more (λ r. get_or ws (1024 + r) 0 ≤ 16) k h.narrow (omega (arith, ec, f.few));
  marked = below_more (λ r. get_or ws (2048 + r) 0 ≤ label_room) k h.marked (omega (arith, em, f.few_labels));
  are =
      tabulated_pushed (row_in text ws) (row_in text ws) k rs (record { table = table; values = vs; labels = ls }) h.are (λ r b. refl)
      (λ j. record { table = et j; values = (ap (tabulated (value_in text ws k)) ec ∙ f.values) j; labels = (ap (tabulated (row_label_in ws k)) em ∙ f.labels) j });
}

module _ (ws : List ℕ) (k table c m : ℕ) (long : length ws ≡ 36864) (inside : k < 1024) where
  abbrev w3 : List ℕ
  w3 = set (set (set ws k table) (1024 + k) c) (2048 + k) m

  -- a place that is none of the three
  besides : (n : ℕ) → ((b : ℕ) → b < 3 → n ≡ 1024 * b + k → ⊥) → get_or w3 n 0 ≡ get_or ws n 0
  besides n h =
      kept_3 ws k (1024 + k) (2048 + k) table c m n
      (λ e. h 0 (omega arith) (omega (arith, e)))
      (λ e. h 1 (omega arith) (omega (arith, e)))
      (λ e. h 2 (omega arith) (omega (arith, e)))

  others_same : (q : ℕ) → q < k → SameRow ws w3 q
  others_same q l = record {
    table = besides q (λ b p e. omega (arith, e, p, l, inside));
    width = besides (1024 + q) (λ b p e. omega (arith, e, p, l, inside));
    marks = besides (2048 + q) (λ b p e. omega (arith, e, p, l, inside));
    value = λ d n. besides (3072 + 16 * q + d) (λ b p e. omega (arith, e, p, inside));
    label = λ d n. besides (19456 + 17 * q + d) (λ b p e. omega (arith, e, p, inside));
  }

  filling_same : (text : List ℕ) (vs : List Value) (ls : List ℕ) → FillingRow text ws k c m vs ls → FillingRow text w3 k c m vs ls
  filling_same text vs ls f = record {
    few = f.few;
    few_labels = f.few_labels;
    values = tabulated_same (value_in text w3 k) (value_in text ws k) c (λ n l. ap (written_at text) (besides (3072 + 16 * k + n) (λ b p e. omega (arith, e, p, inside)))) ∙ f.values;
    labels = tabulated_same (row_label_in w3 k) (row_label_in ws k) m (λ n l. besides (19456 + 17 * k + n) (λ b p e. omega (arith, e, p, inside))) ∙ f.labels;
  }

  pub row_added : (text : List ℕ) (rs : List Row) (vs : List Value) (ls : List ℕ) → Rows text ws k rs → FillingRow text ws k c m vs ls
      → Rows text w3 (k + 1) (rs ++ (record { table = table; values = vs; labels = ls } ∷ []))
  row_added text rs vs ls h f =
      row_counted text w3 k table c m rs vs ls inside (rows_same text ws w3 k rs others_same h) (filling_same text vs ls f)
      (get_or-set_other w2 (2048 + k) k m 0 (λ e. omega (arith, e))
      ∙ get_or-set_other w1 (1024 + k) k c 0 (λ e. omega (arith, e))
      ∙ get_or-set_same ws k table 0 (omega (arith, long, inside)))
      (get_or-set_other w2 (2048 + k) (1024 + k) m 0 (λ e. omega (arith, e))
      ∙ get_or-set_same w1 (1024 + k) c 0 (omega (arith, long, inside, length-set ws k table)))
      (get_or-set_same w2 (2048 + k) m 0 (omega (arith, long, inside, length-set ws k table, length-set w1 (1024 + k) c)))
    where
      w1 : List ℕ
      w1 = set ws k table

      w2 : List ℕ
      w2 = set w1 (1024 + k) c

-- before any row
pub no_rows : (text ws : List ℕ) → Rows text ws 0 []
unfolding tabulated
no_rows text ws = record { few = omega arith; narrow = λ r l. absurd (omega (arith, l)); marked = λ r l. absurd (omega (arith, l)); are = refl }

-- before any value and label of a row
pub row_empty : (text ws : List ℕ) (r : ℕ) → FillingRow text ws r 0 0 [] []
unfolding tabulated
row_empty text ws r = record { few = omega arith; few_labels = omega arith; values = refl; labels = refl }

-- ---- what stands at a row

pub rows_counted : (text ws : List ℕ) (k : ℕ) (rs : List Row) → Rows text ws k rs → length rs ≡ k
rows_counted text ws k rs h = ap length (sym h.are) ∙ length_tabulated (row_in text ws) k

pub row_at : (text ws : List ℕ) (k : ℕ) (rs : List Row) → Rows text ws k rs → (r : ℕ) → r < k → get_elem? rs r ≡ some (row_in text ws r)
row_at text ws k rs h r l = ap (λ xs. get_elem? xs r) (sym h.are) ∙ tabulated_at (row_in text ws) k r l

-- what the code reads of the row x of number r: each law takes what the function of that name gives
module _ (text ws : List ℕ) (k : ℕ) (rs : List Row) (h : Rows text ws k rs) (r : ℕ) (x : Row) (e : get_elem? rs r ≡ some x) where
  pub row_known : (r < k) × (x ≡ row_in text ws r)
  row_known = tabulated_there (row_in text ws) k r x (ap (λ xs. get_elem? xs r) h.are ∙ e)

  pub row_inside : r < 1024
  row_inside = omega (arith, row_known.0, h.few)

  pub table_read : (n : ℕ) → (r < 1024 → n ≡ get_or ws r 0) → n ≡ x.table
  unfolding row_in
  table_read n is = is row_inside ∙ ap (λ y. y.table) (sym row_known.1)

  values_count : length x.values ≡ get_or ws (1024 + r) 0
  unfolding row_in
  values_count = ap (λ y. length y.values) row_known.1 ∙ length_tabulated (value_in text ws r) (get_or ws (1024 + r) 0)

  labels_count : length x.labels ≡ get_or ws (2048 + r) 0
  unfolding row_in
  labels_count = ap (λ y. length y.labels) row_known.1 ∙ length_tabulated (row_label_in ws r) (get_or ws (2048 + r) 0)

  pub values_read : (n : ℕ) → Cut 16 r 1024 (value_count_in ws r) n → n ≡ length x.values
  values_read n w = w.is row_inside (h.narrow r row_known.0) ∙ sym values_count

  pub labels_read : (n : ℕ) → Cut label_room r 1024 (label_count_in ws r) n → n ≡ length x.labels
  labels_read n w = w.is row_inside (h.marked r row_known.0) ∙ sym labels_count

  pub value_read : (c p : ℕ) → c < length x.values → (r < 1024 → c < 16 → p ≡ value_place_in ws r c) → get_elem? x.values c ≡ some (written_at text p)
  unfolding row_in
  value_read c p l is =
      ap (λ y. get_elem? y.values c) row_known.1
      ∙ tabulated_at (value_in text ws r) (get_or ws (1024 + r) 0) c (omega (arith, l, values_count))
      ∙ ap (λ n. some (written_at text n)) (sym (is row_inside (omega (arith, l, values_count, h.narrow r row_known.0))))

  pub label_read : (c p : ℕ) → c < length x.labels → (r < 1024 → c < label_room → p ≡ get_or ws (19456 + 17 * r + c) 0) → get_elem? x.labels c ≡ some p
  unfolding row_in
  label_read c p l is =
      ap (λ y. get_elem? y.labels c) row_known.1
      ∙ tabulated_at (row_label_in ws r) (get_or ws (2048 + r) 0) c (omega (arith, l, labels_count))
      ∙ ap some (sym (is row_inside (omega (arith, l, labels_count, h.marked r row_known.0))))

-- ---- whether a row lies in a table

any_last : {A : Type 0} (f : A → Bool) (xs : List A) (x : A) → any_of f (xs ++ (x ∷ [])) ≡ (any_of f xs || f x)
unfolding any_of
any_last f [] x = or-false (f x)
any_last f (y ∷ ys) x = ap (λ (b : Bool). f y || b) (any_last f ys x) ∙ sym (or_assoc (f y) _ _)

any_none : {A : Type 0} (f : A → Bool) (g : ℕ → A) (k : ℕ) → ((r : ℕ) → r < k → f (g r) ≡ false) → any_of f (tabulated g k) ≡ false
unfolding tabulated any_of
any_none f g zero h = refl
any_none f g (suc k) h = any_last f (tabulated g k) (g k) ∙ (λ i. any_none f g k (λ r l. h r (omega (arith, l))) i || h k (omega arith) i)

any_one : {A : Type 0} (f : A → Bool) (g : ℕ → A) (k r : ℕ) → r < k → f (g r) ≡ true → any_of f (tabulated g k) ≡ true
unfolding tabulated
any_one f g zero r l e = absurd (omega (arith, l))
any_one f g (suc k) r l e = any_last f (tabulated g k) (g k) ∙ go (eqb r k) refl (λ m. any_one f g k r m e)
  where
    go : (b : Bool) → eqb r k ≡ b → (r < k → any_of f (tabulated g k) ≡ true) → (any_of f (tabulated g k) || f (g k)) ≡ true
    go true p ih = or_right (any_of f (tabulated g k)) (f (g k)) (ap (λ n. f (g n)) (sym (eqb-true r k p)) ∙ e)
    go false p ih = let apart : r ≡ k → ⊥ = eqb-false r k p in or_left (any_of f (tabulated g k)) (f (g k)) (ih (omega (arith, l, apart)))

module _ (text ws : List ℕ) (k : ℕ) (rs : List Row) (h : Rows text ws k rs) (t : ℕ) where
  pub row_somewhere : (r : ℕ) → r < k → get_or ws r 0 ≡ t → any_of (λ (x : Row). eqb x.table t) rs ≡ true
  unfolding row_in
  row_somewhere r l e = ap (any_of (λ (x : Row). eqb x.table t)) (sym h.are) ∙ any_one (λ (x : Row). eqb x.table t) (row_in text ws) k r l (eq-eqb (get_or ws r 0) t e)

  pub row_nowhere : ((r : ℕ) → r < k → get_or ws r 0 ≡ t → ⊥) → any_of (λ (x : Row). eqb x.table t) rs ≡ false
  unfolding row_in
  row_nowhere none = ap (any_of (λ (x : Row). eqb x.table t)) (sym h.are) ∙ any_none (λ (x : Row). eqb x.table t) (row_in text ws) k (λ r l. ne_eqb (get_or ws r 0) t (none r l))
