-- What becomes of a row, and how it is counted. Assumes nothing.
use Prim.Native.Nat.{◌+◌, ◌-◌, ◌<◌, ◌≤◌, suc, zero, ℕ}
use borrow.Author.Tests.{eq-eqb, ne_eqb}
use lib.Dec.{eqb}
use lib.ListN.{drop, length, set, take}
use mathlib.Core.Bool.{Bool, ◌&&◌, cond, false, not, true}
use mathlib.Core.List.{List, [], ◌++◌, ◌∷◌}
use mathlib.Core.Path.{◌∙◌, ◌≡◌, ap, refl, subst, sym}
use native.Mathlib.Omega.{arith}
use Rattle.answer.specs.Answer.{satisfies}
use Rattle.answer.specs.Exactly.{is_given, is_unmatched_row, is_withheld_row}
use Rattle.answer.specs.Seen.{rows_in}
use Rattle.judging.proofs.TestLaws.{stored_more}
use Rattle.judging.specs.Judging.{Judgeable, JudgedTo, WithheldBy, counted_by, fate_here, fate_of, passed_by}
use Rattle.judging.specs.Marking.{Marks}
use Rattle.form.specs.Form.{Note, Scheme}
use Rattle.judging.specs.Prepared.{Judged, Prepared, first_withholding}
use Rattle.judging.specs.declared.fates.Fate.TheVariants as fate
use Rattle.judging.specs.declared.marking.Marking.{Marking}
use Rattle.judging.specs.declared.fates.Fate.{Fate}
use Rattle.judging.specs.declared.sought.Sought.{Sought}
use Rattle.judging.specs.declared.tally.Tally.{Tally}
use Rattle.document.specs.Lookup.{labelling_at, notes_of, scheme_at, settled}
use Rattle.document.specs.Open.{open_to, row_withheld}
use Rattle.document.specs.Policy.{Doc, Row}
use Rattle.workspace.proofs.TabulatedLaws.{tabulated_more}
use Rattle.relations.proofs.RowLaws.{row_known}
use Rattle.relations.proofs.TableLaws.{scheme_at_lem, table_inside}
use Rattle.relations.specs.Rows.{Rows, labels_in, row_in, row_table_in}
use Rattle.relations.specs.Tables.{column_labels_in, scheme_by, scheme_in, table_label_in}
use Rattle.workspace.specs.Tabulated.{tabulated}
use Rattle.form.specs.declared.lines.Scheme as coded
use Rattle.lists.proofs.ListLaws.{count_keep}
use Rattle.lists.specs.Lists.{count_of, keep}
use Rattle.query.specs.Query.{Query}
use Rattle.query.specs.QueryForm.{leaves_gaps}
use Rattle.query.specs.QueryPlaces.{verb_of}

-- ---- columns between two places

take-nil : (k : ℕ) → take {A = ℕ} k [] ≡ []
take-nil zero = refl
take-nil (suc k) = refl

between : (cs : List ℕ) (i j : ℕ) → take (j - i) (drop i cs) ≡ drop i (take j cs)
between cs zero j = let e : j - 0 ≡ j = omega arith in ap (λ k. take k cs) e
between [] (suc i) j = take-nil (j - suc i) ∙ sym (ap (drop (suc i)) (take-nil j))
between (c ∷ cs) (suc i) zero = let e : 0 - suc i ≡ 0 = omega arith in ap (λ k. take k (drop i cs)) e
between (c ∷ cs) (suc i) (suc j) = let e : suc j - suc i ≡ j - i = omega arith in ap (λ k. take k (drop i cs)) e ∙ between cs i j

-- a row that is withheld by the columns between two places
pub held_between : (code : coded.Scheme) (ws : List ℕ) (os : List Bool) (m : Marking) (r : ℕ) (cs : List ℕ) (i j : ℕ) (x : Bool) → WithheldBy code ws os m r (take (j - i) (drop i cs)) x → WithheldBy code ws os m r (drop i (take j cs)) x
held_between code ws os m r cs i j x h = λ d p l ls ns said marks few room. subst (λ (es : List ℕ). x ≡ row_withheld (open_to d p) (settled ns (scheme_by code l ls)) es (labels_in ws r)) (between cs i j) (h d p l ls ns said marks few room)

-- ---- a row of a query that is ready for the rows

-- the fate by three tests
abbrev fate_by : Bool → Bool → Bool → Fate
fate_by here held met = cond here (fate_here held met) fate.Elsewhere

module _ (text ws : List ℕ) (count : ℕ) (os : List Bool) (s : List ℕ) (g : Sought) (first : ℕ) (code : coded.Scheme) (cs rs : List ℕ) (d : Doc) (q : Query)
    (jd : Judgeable text ws count os s g first code cs rs d q) (r : ℕ) (l : r < count) where
  pub row_small : r < 1024
  row_small = omega (arith, l, jd.rows.few)

  -- the table as the code reads it
  table_here : (x : ℕ) → (r < 1024 → x ≡ row_table_in ws r) → eqb x g.table ≡ eqb (row_in text ws r).table q.source.table
  unfolding row_in
  table_here x is = λ i. eqb (is row_small i) (sym jd.table i)

  -- whether it is withheld, as the code finds it
  withheld_here : (x : Bool)
      → WithheldBy code ws os g.marking r (drop first (take (g.chosen + g.tests) cs)) x
      → x ≡ is_withheld_row d q (row_in text ws r)
  unfolding is_withheld_row row_in labelling_at
  withheld_here x h =
      let notes : List (Note ℕ) = notes_of d.policy.notes q.source.table in
      h d.policy q.purpose jd.label jd.labels notes jd.said (subst (λ (z : Scheme ℕ). Marks d.policy q.purpose g.marking z notes) (sym jd.schemed) jd.marking) row_small (jd.rows.marked r l)
      ∙ (λ i. row_withheld (open_to d.policy q.purpose) (settled notes (jd.schemed i)) (jd.withholding i) (labels_in ws r))

  -- what the code gives for each row
  module _ (x : ℕ) (is : r < 1024 → x ≡ row_table_in ws r) where
    pub fate_elsewhere : (x ≡ g.table → ⊥) → fate.Elsewhere ≡ fate_of d q (row_in text ws r)
    unfolding fate_of
    fate_elsewhere e = ap (λ (b : Bool). fate_by b (is_withheld_row d q (row_in text ws r)) (satisfies q (row_in text ws r).values)) (sym (ne_eqb x g.table e) ∙ table_here x is)

    module _ (here : x ≡ g.table) (y : Bool)
        (held : WithheldBy code ws os g.marking r (drop first (take (g.chosen + g.tests) cs)) y) where
      in_table : true ≡ eqb (row_in text ws r).table q.source.table
      in_table = sym (eq-eqb x g.table here) ∙ table_here x is

      fate_withheld : y ≡ true → fate.Withheld ≡ fate_of d q (row_in text ws r)
      unfolding fate_of
      fate_withheld e = λ i. fate_by (in_table i) ((sym e ∙ withheld_here y held) i) (satisfies q (row_in text ws r).values)

      fate_judged : y ≡ false → (z : Bool) → z ≡ satisfies q (row_in text ws r).values → (b : Bool) → z ≡ b → cond b fate.Passed fate.Unmatched ≡ fate_of d q (row_in text ws r)
      unfolding fate_of
      fate_judged e z met b f = λ i. fate_by (in_table i) ((sym e ∙ withheld_here y held) i) ((sym f ∙ met) i)

      -- by the two tests: the second says that the row is not withheld and its condition holds
      pub fate_tested : (z : Bool) → z ≡ (not y && satisfies q (row_in text ws r).values) → (f : Fate) → f ≡ fate_here y z → f ≡ fate_of d q (row_in text ws r)
      fate_tested z met f is = is ∙ go y refl
        where
          go : (b : Bool) → y ≡ b → fate_here b z ≡ fate_of d q (row_in text ws r)
          go true e = fate_withheld e
          go false e = fate_judged e z (met ∙ ap (λ (b : Bool). not b && satisfies q (row_in text ws r).values) e) z refl

-- the first of the columns that withhold, by whether gaps are left
module _ (g : Sought) (b : Bool) (gaps : b ≡ leaves_gaps (verb_of g.verb)) where
  pub first_gaps : b ≡ true → g.chosen ≡ first_withholding g
  unfolding first_withholding
  first_gaps e = ap (λ (x : Bool). cond x g.chosen 0) (sym e ∙ gaps)

  pub first_whole : b ≡ false → 0 ≡ first_withholding g
  unfolding first_withholding
  first_whole e = ap (λ (x : Bool). cond x g.chosen 0) (sym e ∙ gaps)

-- a prepared query is ready for the rows
pub judgeable : (text ts ws : List ℕ) (count : ℕ) (os : List Bool) (s : List ℕ) (g : Sought) (rs cs : List ℕ) (d : Doc) (q : Query) → Prepared text ts ws count os s g rs cs d q
    → {first : ℕ} → first ≡ first_withholding g → (code : coded.Scheme) → (g.table < 8 → scheme_in ts g.table ≡ scheme_by code (table_label_in ts g.table) (column_labels_in ts g.table))
    → Judgeable text ws count os s g first code cs rs d q
judgeable text ts ws count os s g rs cs d q pr f code is = record {
  rows = pr.rows;
  table = pr.table;
  label = table_label_in ts g.table;
  labels = column_labels_in ts g.table;
  schemed =
      sym (is (table_inside text ts pr.table_count g.table d.policy pr.tables pr.inside))
      ∙ sym (scheme_at_lem text ts pr.table_count g.table d.policy pr.tables pr.inside)
      ∙ ap (scheme_at d.policy) (sym pr.table);
  said = pr.said;
  marking = pr.marking;
  withholding = ap (λ n. drop n (take (g.chosen + g.tests) cs)) f ∙ pr.withholding;
  tested = pr.tested;
}

-- the second test, where the row is withheld and where it is not
pub met_none : (b y : Bool) → b ≡ true → false ≡ (not b && y)
met_none b y e = ap (λ (z : Bool). not z && y) (sym e)

pub met_judged : (b x y : Bool) → b ≡ false → x ≡ y → x ≡ (not b && y)
met_judged b x y e h = h ∙ ap (λ (z : Bool). not z && y) (sym e)

-- ---- counting

module _ {A : Type 0} (f : A → Bool) where
  -- one more at the end
  count_behind : (xs : List A) (x : A) → count_of f (xs ++ (x ∷ [])) ≡ count_of f xs + cond (f x) 1 0
  unfolding count_of keep
  count_behind [] x = go (f x)
    where
      go : (b : Bool) → length (cond b (x ∷ []) []) ≡ 0 + cond b 1 0
      go true = refl
      go false = refl
  count_behind (y ∷ ys) x = go (f y) (count_behind ys x)
    where
      go : (b : Bool) → length (keep f (ys ++ (x ∷ []))) ≡ length (keep f ys) + cond (f x) 1 0
          → length (cond b (y ∷ keep f (ys ++ (x ∷ []))) (keep f (ys ++ (x ∷ [])))) ≡ length (cond b (y ∷ keep f ys) (keep f ys)) + cond (f x) 1 0
      go true e = omega (arith, e)
      go false e = e

-- the rows of a table, with one row more
rows_more : (t : ℕ) (row : ℕ → Row) (f : Row → Bool) (k : ℕ) → count_of f (rows_in t (tabulated row (k + 1))) ≡ count_of f (rows_in t (tabulated row k)) + cond (eqb (row k).table t && f (row k)) 1 0
unfolding rows_in
rows_more t row f k =
    count_keep f (λ x. eqb x.table t) (tabulated row (k + 1))
    ∙ ap (count_of (λ x. eqb x.table t && f x)) (tabulated_more row k)
    ∙ count_behind (λ x. eqb x.table t && f x) (tabulated row k) (row k)
    ∙ ap (λ (n : ℕ). n + cond (eqb (row k).table t && f (row k)) 1 0) (sym (count_keep f (λ x. eqb x.table t) (tabulated row k)))

-- what a row of this fate adds to the counts
record Adds (x : Tally) (f : Fate) (given held missed : Bool) : Type 0 where
  mark : passed_by f ≡ given
  passed : (counted_by x f).passed ≡ x.passed + cond given 1 0
  withheld : (counted_by x f).withheld ≡ x.withheld + cond held 1 0
  unmatched : (counted_by x f).unmatched ≡ x.unmatched + cond missed 1 0

fate_adds : (x : Tally) (here held met : Bool) → Adds x (fate_by here held met) (here && (not held && met)) (here && held) (here && (not held && not met))
fate_adds x false held met = record { mark = refl; passed = omega arith; withheld = omega arith; unmatched = omega arith }
fate_adds x true true met = record { mark = refl; passed = omega arith; withheld = refl; unmatched = omega arith }
fate_adds x true false true = record { mark = refl; passed = refl; withheld = omega arith; unmatched = omega arith }
fate_adds x true false false = record { mark = refl; passed = omega arith; withheld = omega arith; unmatched = refl }

-- a count grows by one at most
pub record Fewer (k : ℕ) (x : Tally) : Type 0 where
  pub passed : x.passed ≤ k
  pub withheld : x.withheld ≤ k
  pub unmatched : x.unmatched ≤ k

pub fewer_more : (k : ℕ) (x y : Tally) (f : Fate) → Fewer k x → y ≡ counted_by x f → Fewer (k + 1) y
fewer_more k x y f h e = subst (Fewer (k + 1)) (sym e) (go f)
  where
    go : (f : Fate) → Fewer (k + 1) (counted_by x f)
    go fate.Elsewhere = record { passed = omega (arith, h.passed); withheld = omega (arith, h.withheld); unmatched = omega (arith, h.unmatched) }
    go fate.Withheld = record { passed = omega (arith, h.passed); withheld = omega (arith, h.withheld); unmatched = omega (arith, h.unmatched) }
    go fate.Passed = record { passed = omega (arith, h.passed); withheld = omega (arith, h.withheld); unmatched = omega (arith, h.unmatched) }
    go fate.Unmatched = record { passed = omega (arith, h.passed); withheld = omega (arith, h.withheld); unmatched = omega (arith, h.unmatched) }

-- ---- the rows judged so far

module _ (d : Doc) (q : Query) (row : ℕ → Row) where
  pub judged_none : (marks : List Bool) → JudgedTo d q row 0 marks (record { passed = 0; withheld = 0; unmatched = 0 })
  unfolding tabulated rows_in count_of keep
  judged_none marks = record { given = λ r l. absurd (omega (arith, l)); passed = refl; withheld = refl; unmatched = refl }

  module _ (k : ℕ) (marks : List Bool) (x : Tally) (l : k < length marks) (h : JudgedTo d q row k marks x) where
    row_adds : Adds x (fate_of d q (row k)) (eqb (row k).table q.source.table && is_given d q (row k)) (eqb (row k).table q.source.table && is_withheld_row d q (row k)) (eqb (row k).table q.source.table && is_unmatched_row d q (row k))
    unfolding fate_of is_given is_unmatched_row
    row_adds = fate_adds x (eqb (row k).table q.source.table) (is_withheld_row d q (row k)) (satisfies q (row k).values)

    fate_more : JudgedTo d q row (k + 1) (set marks k (passed_by (fate_of d q (row k)))) (counted_by x (fate_of d q (row k)))
    fate_more = record {
      given = stored_more (λ r b. b ≡ (eqb (row r).table q.source.table && is_given d q (row r))) marks k (passed_by (fate_of d q (row k))) l h.given row_adds.mark;
      passed = row_adds.passed ∙ ap (λ (n : ℕ). n + cond (eqb (row k).table q.source.table && is_given d q (row k)) 1 0) h.passed ∙ sym (rows_more q.source.table row (is_given d q) k);
      withheld = row_adds.withheld ∙ ap (λ (n : ℕ). n + cond (eqb (row k).table q.source.table && is_withheld_row d q (row k)) 1 0) h.withheld ∙ sym (rows_more q.source.table row (is_withheld_row d q) k);
      unmatched = row_adds.unmatched ∙ ap (λ (n : ℕ). n + cond (eqb (row k).table q.source.table && is_unmatched_row d q (row k)) 1 0) h.unmatched ∙ sym (rows_more q.source.table row (is_unmatched_row d q) k);
    }

    pub judged_more : (f : Fate) → f ≡ fate_of d q (row k) → (b : Bool) → b ≡ passed_by f → (y : Tally) → y ≡ counted_by x f → JudgedTo d q row (k + 1) (set marks k b) y
    judged_more f e b eb y ey =
        subst (λ (b : Bool). JudgedTo d q row (k + 1) (set marks k b) y) (sym (eb ∙ ap passed_by e))
        (subst (λ (y : Tally). JudgedTo d q row (k + 1) (set marks k (passed_by (fate_of d q (row k)))) y) (sym (ey ∙ ap (counted_by x) e)) fate_more)

-- all rows are judged
pub judged_all : (text ws : List ℕ) (count : ℕ) (d : Doc) (q : Query) (marks : List Bool) (x : Tally) → Rows text ws count d.rows → JudgedTo d q (row_in text ws) count marks x → Judged d q marks x
judged_all text ws count d q marks x rows h = record {
  given = λ r row e. let k = row_known text ws count d.rows rows r row e in
      h.given r k.0 ∙ ap (λ (z : Row). eqb z.table q.source.table && is_given d q z) (sym k.1);
  passed = h.passed ∙ ap (λ (rs : List Row). count_of (is_given d q) (rows_in q.source.table rs)) rows.are;
  withheld = h.withheld ∙ ap (λ (rs : List Row). count_of (is_withheld_row d q) (rows_in q.source.table rs)) rows.are;
  unmatched = h.unmatched ∙ ap (λ (rs : List Row). count_of (is_unmatched_row d q) (rows_in q.source.table rs)) rows.are;
}
