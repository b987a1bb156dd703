-- The sums of a table's rows, and the longest among the tables: how they grow. Assumes nothing.
use Prim.Native.Nat.{◌+◌, ◌<◌, ◌≤◌, ℕ}
use borrow.Author.Tests.{eq-eqb, le-leb, lt-leb, ne_eqb}
use lib.Dec.{eqb}
use lib.ListN.{length, length-append}
use mathlib.Core.Bool.{Bool, cond, false, true}
use mathlib.Core.List.{List, [], ◌++◌, ◌∷◌, append-nil, flatten, map}
use mathlib.Core.Path.{◌∙◌, ◌≡◌, ap, refl, subst, sym}
use native.Mathlib.Numerals.{add-one}
use native.Mathlib.Omega.{arith}
use Rattle.answer.proofs.EndLines.{end_passed}
use Rattle.answer.proofs.RowLines.{whole_length_lem}
use Rattle.answer.specs.Answer.{counted, end_line}
use Rattle.answer.specs.Reserve.{greatest, larger, whole_length, whole_lengths, whole_line}
use Rattle.answer.specs.Seen.{rows_in}
use Rattle.document.specs.Policy.{Row}
use Rattle.form.specs.RowText.{spaced}
use Rattle.lists.specs.Lists.{keep}
use Rattle.purpose.specs.Members.{passing}
use Rattle.relations.specs.Rows.{Rows, row_in, row_table_in, value_count_in}
use Rattle.reserve.specs.Sums.{Adds, Sums}
use Rattle.reserve.specs.declared.sums.Sum.{Sum}
use Rattle.text.proofs.ReaderLaws.{list_cost}
use Rattle.text.specs.Numbers.{Value, decimal}
use Rattle.workspace.proofs.TabulatedLaws.{tabulated_more}
use Rattle.workspace.specs.Tabulated.{tabulated}

-- ---- the values of a row

spaced_length : (vs : List Value) → length (spaced vs) ≡ list_cost length vs
unfolding spaced flatten list_cost
spaced_length [] = refl
spaced_length (v ∷ vs) = length-append (32 ∷ v) _ ∙ omega (arith, spaced_length vs)

spaced_behind : (vs : List Value) (v : Value) → length (spaced (vs ++ (v ∷ []))) ≡ length (spaced vs) + (1 + length v)
unfolding spaced flatten
spaced_behind [] v = omega (arith, length-append (32 ∷ v) [])
spaced_behind (u ∷ vs) v = omega (arith, length-append (32 ∷ u) (spaced (vs ++ (v ∷ []))), length-append (32 ∷ u) (spaced vs), spaced_behind vs v)

-- one value more
pub values_more : (f : ℕ → Value) (c : ℕ) → length (spaced (tabulated f (c + 1))) ≡ length (spaced (tabulated f c)) + (1 + length (f c))
values_more f c = ap (λ (vs : List Value). length (spaced vs)) (tabulated_more f c) ∙ spaced_behind (tabulated f c) (f c)

-- none
pub values_none : (f : ℕ → Value) → length (spaced (tabulated f 0)) ≡ 0
unfolding tabulated spaced flatten
values_none f = refl

-- the line around the values
pub line_values : (vs : List Value) → length (whole_line vs) ≡ 6 + length (spaced vs)
line_values vs = omega (arith, whole_length_lem vs, spaced_length vs)

-- ---- the rows of a table

rows_behind : (t : ℕ) (rs : List Row) (r : Row) → rows_in t (rs ++ (r ∷ [])) ≡ rows_in t rs ++ cond (eqb r.table t) (r ∷ []) []
unfolding rows_in keep
rows_behind t [] r = refl
rows_behind t (s ∷ rs) r = go (eqb s.table t) (rows_behind t rs r)
  where
    go : (b : Bool) → keep (λ r. eqb r.table t) (rs ++ (r ∷ [])) ≡ keep (λ r. eqb r.table t) rs ++ cond (eqb r.table t) (r ∷ []) []
        → cond b (s ∷ keep (λ r. eqb r.table t) (rs ++ (r ∷ []))) (keep (λ r. eqb r.table t) (rs ++ (r ∷ [])))
        ≡ cond b (s ∷ keep (λ r. eqb r.table t) rs) (keep (λ r. eqb r.table t) rs) ++ cond (eqb r.table t) (r ∷ []) []
    go true e = ap (λ (l : List Row). s ∷ l) e
    go false e = e

-- how long the lines of rows are
abbrev lines_length : List Row → ℕ
lines_length rs = length (flatten (map (λ (r : Row). whole_line r.values) rs))

lines_behind : (rs : List Row) (r : Row) → lines_length (rs ++ (r ∷ [])) ≡ lines_length rs + length (whole_line r.values)
unfolding flatten
lines_behind [] r = omega (arith, length-append (whole_line r.values) [])
lines_behind (s ∷ rs) r = omega (
  arith,
  length-append (whole_line s.values) (flatten (map (λ (r : Row). whole_line r.values) (rs ++ (r ∷ [])))),
  length-append (whole_line s.values) (flatten (map (λ (r : Row). whole_line r.values) rs)),
  lines_behind rs r,
)

-- of no rows
sums_none : (t : ℕ) (s : Sum) → s.count ≡ 0 → s.bytes ≡ 0 → Sums (rows_in t []) s
unfolding rows_in keep flatten
sums_none t s p q = record { count = p; bytes = q }

module _ (t : ℕ) (rs : List Row) (r : Row) (s x : Sum) (h : Sums (rows_in t rs) s) where
  -- with a row of the table
  sums_here : eqb r.table t ≡ true → x.count ≡ s.count + 1 → x.bytes ≡ s.bytes + length (whole_line r.values) → Sums (rows_in t (rs ++ (r ∷ []))) x
  sums_here e p q =
      subst (λ (l : List Row). Sums l x) (sym (rows_behind t rs r ∙ ap (λ (b : Bool). rows_in t rs ++ cond b (r ∷ []) []) e))
      (record {
        count = omega (arith, p, h.count, length-append (rows_in t rs) (r ∷ []));
        bytes = omega (arith, q, h.bytes, lines_behind (rows_in t rs) r);
      })

  -- with one of another
  sums_other : eqb r.table t ≡ false → x ≡ s → Sums (rows_in t (rs ++ (r ∷ []))) x
  sums_other e p =
      subst (λ (l : List Row). Sums l x) (sym (rows_behind t rs r ∙ ap (λ (b : Bool). rows_in t rs ++ cond b (r ∷ []) []) e ∙ append-nil (rows_in t rs)))
      (subst (Sums (rows_in t rs)) (sym p) h)

-- row r of the workspace, whose line has m bytes
module _ (text ws : List ℕ) (r t : ℕ) (s x : Sum) where
  pub adds_here : (m : ℕ) → row_table_in ws r ≡ t → (value_count_in ws r ≤ 16 → m ≡ length (whole_line (row_in text ws r).values)) → m ≤ 960022 → x.count ≡ s.count + 1 → x.bytes ≡ s.bytes + m → Adds text ws r t s x
  unfolding row_in
  adds_here m e f g p q = record {
    sums = λ rs n h. sums_here t rs (row_in text ws r) s x h (eq-eqb (row_table_in ws r) t e) p (q ∙ ap (λ (k : ℕ). s.bytes + k) (f n));
    count = omega (arith, p);
    bytes = omega (arith, q, g);
  }

  pub adds_other : (row_table_in ws r ≡ t → ⊥) → x ≡ s → Adds text ws r t s x
  unfolding row_in
  adds_other e p = record {
    sums = λ rs n h. sums_other t rs (row_in text ws r) s x h (ne_eqb (row_table_in ws r) t e) p;
    count = omega (arith, ap (λ (y : Sum). y.count) p);
    bytes = omega (arith, ap (λ (y : Sum). y.bytes) p);
  }

  -- the sum of the first r rows, with row r
  pub rows_more : ((rs : List Row) → Rows text ws r rs → Sums (rows_in t rs) s) → Adds text ws r t s x → (rs : List Row) → Rows text ws (r + 1) rs → Sums (rows_in t rs) x
  rows_more h a rs k =
      subst (λ (l : List Row). Sums (rows_in t l) x) (sym (tabulated_more (row_in text ws) r) ∙ k.are)
      (a.sums (tabulated (row_in text ws) r) (k.narrow r (omega arith)) (h (tabulated (row_in text ws) r) (record {
        few = omega (arith, k.few);
        narrow = λ i l. k.narrow i (omega (arith, l));
        marked = λ i l. k.marked i (omega (arith, l));
        are = refl;
      })))

-- of the first 0
pub rows_none : (text ws : List ℕ) (t : ℕ) (s : Sum) → s.count ≡ 0 → s.bytes ≡ 0 → (rs : List Row) → Rows text ws 0 rs → Sums (rows_in t rs) s
unfolding tabulated
rows_none text ws t s p q rs k = subst (λ (l : List Row). Sums (rows_in t l) s) k.are (sums_none t s p q)

-- the whole answer
pub sums_whole : (rs : List Row) (s : Sum) → Sums rs s → s.bytes + 11 + length (decimal s.count) ≡ whole_length rs
unfolding whole_length counted
sums_whole rs s h = omega (
  arith,
  h.bytes,
  ap (λ (n : ℕ). length (decimal n)) h.count,
  end_passed (length rs),
  length-append (flatten (map (λ r. whole_line r.values) rs)) (end_line (length rs) 0 0),
)

-- ---- the longest

pub larger_second : (m n : ℕ) → m ≤ n → n ≡ larger m n
unfolding larger
larger_second m n h = rw (le-leb m n h)

pub larger_first : (m n : ℕ) → n < m → m ≡ larger m n
unfolding larger
larger_first m n h = rw (lt-leb m n h)

pub longest_none : (rs : List Row) → greatest (whole_lengths rs 0) ≡ 0
unfolding greatest whole_lengths passing
longest_none rs = refl

-- one table more
pub longest_more : (rs : List Row) (t : ℕ) → greatest (whole_lengths rs (t + 1)) ≡ larger (whole_length (rows_in t rs)) (greatest (whole_lengths rs t))
unfolding greatest whole_lengths passing
longest_more rs t = rw (add-one t)
