-- The lines of the marked rows and the counts are the answer of the definitions. Assumes nothing.
use Prim.Native.Nat.{◌<◌, ℕ}
use Rattle.answer.proofs.AccountedRows.{gives_exactly, line_agree, open_whole}
use Rattle.answer.specs.Answer.{Answer, answer_to, counted, end_line, row_line, satisfies}
use Rattle.answer.specs.Exactly.{GivesExactly, gapped_values, is_given, is_withheld_row, with_gaps}
use Rattle.answer.specs.Seen.{rows_in, seen_rows}
use Rattle.answering.proofs.LineLaws.{shown_gaps, shown_whole}
use Rattle.answering.specs.Lines.{answer_marked, gaps_by, labels_cells, line_marked, lines_marked, row_shown, values_in}
use Rattle.document.proofs.OpenLaws.{shown_open}
use Rattle.document.specs.Lookup.{labelling_at, notes_of, settled}
use Rattle.document.specs.NoteFaults.{is_nested}
use Rattle.document.specs.Open.{Opening, cell_open, open_to, row_withheld}
use Rattle.document.specs.Policy.{Doc, Policy, Row}
use Rattle.form.specs.Form.{Note, Scheme, has_brackets}
use Rattle.form.specs.declared.lines.Scheme as coded
use Rattle.form.specs.declared.lines.Scheme.TheVariants as codes
use Rattle.judging.proofs.FateLaws.{judgeable}
use Rattle.judging.proofs.OpenCells.{nest_cell, own_cell, under_own}
use Rattle.judging.specs.Judging.{Judgeable}
use Rattle.judging.specs.Marking.{Marks, open_in, open_under}
use Rattle.judging.specs.Prepared.{Judged, Prepared, first_withholding, wanted_by}
use Rattle.judging.specs.declared.marking.Marking.{Marking}
use Rattle.judging.specs.declared.sought.Sought.{Sought}
use Rattle.judging.specs.declared.tally.Tally.{Tally}
use Rattle.lists.proofs.KeptLaws.{flatten_keep}
use Rattle.lists.proofs.Tests.{and_left, true_not_false}
use Rattle.lists.specs.Lists.{all_of, keep, member}
use Rattle.query.proofs.NamedAll.{selected_named}
use Rattle.query.specs.Query.{Query}
use Rattle.query.specs.QueryForm.{leaves_gaps, selected}
use Rattle.query.specs.QueryPlaces.{verb_of}
use Rattle.relations.proofs.RowLaws.{row_at}
use Rattle.relations.specs.Labels.{Said}
use Rattle.relations.specs.Rows.{Rows, labels_in, row_in, value_count_in}
use Rattle.relations.specs.Tables.{column_labels_in, scheme_by, scheme_in, table_label_in}
use Rattle.text.specs.Numbers.{Value}
use Rattle.workspace.proofs.TabulatedLaws.{tabulated_map, tabulated_same}
use borrow.Author.Tests.{not-true}
use lib.Dec.{eqb}
use lib.ListN.{get_or, get_elem?, take}
use mathlib.Core.Bool.{Bool, ◌&&◌, cond, false, not, true}
use mathlib.Core.List.{List, [], ◌++◌, ◌∷◌, flatten, map}
use mathlib.Core.Option.{some}
use mathlib.Core.Path.{◌∙◌, ◌≡◌, ap, refl, subst, sym}
use native.Mathlib.Omega.{arith}

-- to keep what passes two tests is to keep what passes the one, and of that what passes the other
keep_both : {A : Type 0} (f g : A → Bool) (xs : List A) → keep (λ x. f x && g x) xs ≡ keep g (keep f xs)
unfolding keep
keep_both f g [] = refl
keep_both f g (x ∷ xs) = go (f x) (g x) refl (keep_both f g xs)
  where
    go : (a b : Bool) → g x ≡ b → keep (λ y. f y && g y) xs ≡ keep g (keep f xs)
        → cond (a && b) (x ∷ keep (λ y. f y && g y) xs) (keep (λ y. f y && g y) xs) ≡ keep g (cond a (x ∷ keep f xs) (keep f xs))
    go true true k e = rw k (ap (λ l. x ∷ l) e)
    go true false k e = rw k e
    go false b k e = e

module _ (cs : List ℕ) (f g : Row → Bool) (values : Row → List Value) where
  abbrev line : Row → List ℕ
  line r = row_line cs (values r)

  -- the line of a row that passes both tests
  abbrev piece : Row → List ℕ
  piece r = cond (f r && g r) (line r) []

  -- where the marks say which rows pass both, and the lines of these are written, the lines are those of the rows that pass them
  marked_kept : (text ws : List ℕ) (written : ℕ → List Value) (marks : List Bool) (k : ℕ) (rs : List Row) → Rows text ws k rs
      → ((r : ℕ) (row : Row) → get_elem? rs r ≡ some row → get_or marks r false ≡ (f row && g row))
      → ((r : ℕ) → g (row_in text ws r) ≡ true → row_line cs (written r) ≡ line (row_in text ws r))
      → lines_marked written cs marks k ≡ flatten (map line (keep g (keep f rs)))
  unfolding lines_marked line_marked
  marked_kept text ws written marks k rs rows given same =
      ap flatten (tabulated_same (λ r. line_marked written cs r (get_or marks r false)) (λ r. piece (row_in text ws r)) k
      (λ r l. ap (line_marked written cs r) (given r (row_in text ws r) (row_at text ws k rs rows r l)) ∙ told (f (row_in text ws r)) (g (row_in text ws r)) (same r)))
      ∙ ap flatten (sym (tabulated_map piece (row_in text ws) k))
      ∙ ap (λ l. flatten (map piece l)) rows.are
      ∙ flatten_keep (λ r. f r && g r) line rs
      ∙ ap (λ l. flatten (map line l)) (keep_both f g rs)
    where
      told : (a b : Bool) {l m : List ℕ} → (b ≡ true → l ≡ m) → cond (a && b) l [] ≡ cond (a && b) m []
      told true true h = h refl
      told true false h = refl
      told false b h = refl

-- ---- what the scheme says of gaps

module _ (d : Policy) (p : ℕ) (os : List Bool) (m : Marking) (ns : List (Note ℕ)) (l : ℕ) (ls : List ℕ) where
  -- where cells have labels of their own, a cell is open as the code finds it
  cell_own : (code : coded.Scheme) → labels_cells code ≡ true → Said d p os → Marks d p m (scheme_by code l ls) ns → (labels : List ℕ) (c : ℕ) → cell_open (open_to d p) (settled ns (scheme_by code l ls)) labels c ≡ open_in os m labels c
  unfolding has_brackets scheme_by open_in is_nested
  cell_own codes.Unlabelled e said k labels c = true_not_false e refl
  cell_own codes.ByTable e said k labels c = true_not_false e refl
  cell_own codes.ByColumn e said k labels c = true_not_false e refl
  cell_own codes.ByRow e said k labels c = true_not_false e refl
  cell_own codes.ByCell e said k labels c = sym (own_cell d p os said m ns labels k c) ∙ ap (λ (x : Marking). open_under os x labels c) (under_own os m labels k.nested)
  cell_own codes.Nested e said k labels c = sym (nest_cell d p os said m ns labels k c)

module _ (opening : Opening) (ns : List (Note ℕ)) (l : ℕ) (ls : List ℕ) where
  -- where they have not, no column withholds a row more than another
  columns_alike : (code : coded.Scheme) → labels_cells code ≡ false → (cs es labels : List ℕ) → row_withheld opening (settled ns (scheme_by code l ls)) cs labels ≡ row_withheld opening (settled ns (scheme_by code l ls)) es labels
  unfolding has_brackets settled scheme_by row_withheld
  columns_alike codes.Unlabelled e cs es labels = refl
  columns_alike codes.ByTable e cs es labels = refl
  columns_alike codes.ByColumn e cs es labels = refl
  columns_alike codes.ByRow e cs es labels = refl
  columns_alike codes.ByCell e cs es labels = true_not_false refl e
  columns_alike codes.Nested e cs es labels = true_not_false refl e

module _ {text ts ws : List ℕ} {count : ℕ} {os : List Bool} {s : List ℕ} {g : Sought} {read cs : List ℕ} {d : Doc} {q : Query} {marks : List Bool} {x : Tally}
    (p : Prepared text ts ws count os s g read cs d q) (j : Judged d q marks x)
    (code : coded.Scheme) (is : g.table < 8 → scheme_in ts g.table ≡ scheme_by code (table_label_in ts g.table) (column_labels_in ts g.table))
    {gaps : Bool} (has : gaps ≡ gaps_by g.verb code) where
  -- what is open, and the scheme with what later lines say
  abbrev opening : Opening
  opening = open_to d.policy q.purpose

  abbrev scheme : Scheme ℕ
  scheme = labelling_at d.policy q.source.table

  abbrev chosen : List ℕ
  chosen = take g.chosen cs

  abbrev written : ℕ → List Value
  written = row_shown os g.marking text ws gaps

  ready : Judgeable text ws count os s g (first_withholding g) code cs read d q
  ready = judgeable text ts ws count os s g read cs d q p refl code is

  scheme_is : scheme ≡ settled (notes_of d.policy.notes q.source.table) (scheme_by code ready.label ready.labels)
  unfolding labelling_at
  scheme_is = ap (settled (notes_of d.policy.notes q.source.table)) (sym ready.schemed)

  -- with gaps: each closed cell has one
  written_gapped : labels_cells code ≡ true → (r : ℕ) → with_gaps (open_in os g.marking (labels_in ws r)) 0 (row_in text ws r).values ≡ gapped_values d q (row_in text ws r)
  unfolding gapped_values row_in
  written_gapped own r = ap (λ (o : ℕ → Bool). with_gaps o 0 (values_in text ws r (value_count_in ws r))) (λ i c. sym (opens c) i)
    where
      notes : List (Note ℕ)
      notes = notes_of d.policy.notes q.source.table

      marked_so : Marks d.policy q.purpose g.marking (scheme_by code ready.label ready.labels) notes
      marked_so = subst (λ (z : Scheme ℕ). Marks d.policy q.purpose g.marking z (notes_of d.policy.notes q.source.table)) (sym ready.schemed) p.marking

      opens : (c : ℕ) → cell_open opening scheme (labels_in ws r) c ≡ open_in os g.marking (labels_in ws r) c
      opens c = ap (λ (y : Scheme ℕ). cell_open opening y (labels_in ws r) c) scheme_is ∙ cell_own d.policy q.purpose os g.marking notes ready.label ready.labels code own p.said marked_so (labels_in ws r) c

  -- without labels of its own no cell is closed in a named column of a row that is given
  named_open : labels_cells code ≡ false → (r : Row) → is_given d q r ≡ true → (c : ℕ) → member c q.source.named ≡ true → cell_open opening scheme r.labels c ≡ true
  unfolding is_given is_withheld_row
  named_open own r given c m = shown_open opening scheme q.source.named r.labels p.parts.table p.parts.columns alike c m
    where
      alike : row_withheld opening scheme q.source.named r.labels ≡ false
      alike =
          ap (λ (y : Scheme ℕ). row_withheld opening y q.source.named r.labels) scheme_is
          ∙ columns_alike opening (notes_of d.policy.notes q.source.table) ready.label ready.labels code own q.source.named q.source.withholding r.labels
          ∙ ap (λ (y : Scheme ℕ). row_withheld opening y q.source.withholding r.labels) (sym scheme_is)
          ∙ not-true (is_withheld_row d q r) (and_left (not (is_withheld_row d q r)) (satisfies q r.values) given)

  -- so its line has no gap
  line_ungapped : labels_cells code ≡ false → q.wanted ≡ wanted_by true g.verb chosen → (r : Row) → is_given d q r ≡ true → row_line chosen r.values ≡ row_line chosen (gapped_values d q r)
  unfolding gapped_values wanted_by selected
  line_ungapped own e r given = line_agree (λ c. member c q.source.named) chosen (subst (λ w. all_of (λ c. member c q.source.named) (selected w) ≡ true) e (selected_named q p.named)) r.values _
      (λ c m. sym (open_whole (cell_open opening scheme r.labels) 0 r.values c c (omega arith) (named_open own r given c m)))

  -- the lines of the marked rows are those of the rows given, with their values as they are given
  lines_given : (values : Row → List Value) → ((r : ℕ) → is_given d q (row_in text ws r) ≡ true → row_line chosen (written r) ≡ row_line chosen (values (row_in text ws r)))
      → lines_marked written chosen marks count ≡ flatten (map (λ r. row_line chosen (values r)) (keep (is_given d q) (rows_in q.source.table d.rows)))
  unfolding rows_in
  lines_given values same = marked_kept chosen (λ r. eqb r.table q.source.table) (is_given d q) values text ws written marks count d.rows p.rows j.given same

  -- where gaps are left
  blank_line : leaves_gaps (verb_of g.verb) ≡ true → q.wanted ≡ wanted_by true g.verb chosen → (r : ℕ) → is_given d q (row_in text ws r) ≡ true → row_line chosen (written r) ≡ row_line chosen (gapped_values d q (row_in text ws r))
  unfolding row_in gaps_by
  blank_line h e r given = go (labels_cells code) refl
    where
      gaps_are : gaps ≡ labels_cells code
      gaps_are = has ∙ ap (λ (b : Bool). b && labels_cells code) h

      go : (b : Bool) → labels_cells code ≡ b → row_line chosen (written r) ≡ row_line chosen (gapped_values d q (row_in text ws r))
      go true own = ap (row_line chosen) (sym (shown_gaps os g.marking text ws r (value_count_in ws r) (gaps_are ∙ own)) ∙ written_gapped own r)
      go false own = ap (row_line chosen) (sym (shown_whole os g.marking text ws r (value_count_in ws r) (gaps_are ∙ own))) ∙ line_ungapped own e (row_in text ws r) given

  -- and where they are not
  select_line : leaves_gaps (verb_of g.verb) ≡ false → (r : ℕ) → row_line chosen (written r) ≡ row_line chosen (row_in text ws r).values
  unfolding row_in gaps_by
  select_line h r = ap (row_line chosen) (sym (shown_whole os g.marking text ws r (value_count_in ws r) (has ∙ ap (λ (b : Bool). b && labels_cells code) h)))

  -- the answer is the one that was written
  pub answer_is : answer_to q (seen_rows d q) ≡ answer_marked written chosen marks count g.lines x
  unfolding answer_marked counted wanted_by
  answer_is = λ i. record { bytes = same_bytes_lem g.lines p.wanted i; passed = same_passed i; withheld = same_withheld i; unmatched = same_unmatched i }
    where
      a : Answer
      a = answer_to q (seen_rows d q)

      exact : GivesExactly d q a
      exact = gives_exactly d q p.named p.parts

      same_passed : a.passed ≡ x.passed
      same_passed = exact.passed ∙ sym j.passed

      same_withheld : a.withheld ≡ x.withheld
      same_withheld = exact.withheld ∙ sym j.withheld

      same_unmatched : a.unmatched ≡ x.unmatched
      same_unmatched = exact.unmatched ∙ sym j.unmatched

      same_lines : (values : Row → List Value) → ((r : ℕ) → is_given d q (row_in text ws r) ≡ true → row_line chosen (written r) ≡ row_line chosen (values (row_in text ws r)))
          → flatten (map (λ r. row_line chosen (values r)) (keep (is_given d q) (rows_in q.source.table d.rows))) ++ end_line a.passed a.withheld a.unmatched
          ≡ (answer_marked written chosen marks count true x).bytes
      same_lines values same = λ i. sym (lines_given values same) i ++ end_line (same_passed i) (same_withheld i) (same_unmatched i)

      by_verb : q.wanted ≡ wanted_by true g.verb chosen → (b : Bool) → leaves_gaps (verb_of g.verb) ≡ b → a.bytes ≡ (answer_marked written chosen marks count true x).bytes
      by_verb e true h = exact.blanks (verb_of g.verb) chosen e h ∙ same_lines (gapped_values d q) (blank_line h e)
      by_verb e false h = exact.selects (verb_of g.verb) chosen e h ∙ same_lines (λ r. r.values) (λ r given. select_line h r)

      same_bytes_lem : (b : Bool) → q.wanted ≡ wanted_by b g.verb chosen → a.bytes ≡ (answer_marked written chosen marks count b x).bytes
      same_bytes_lem true e = by_verb e (leaves_gaps (verb_of g.verb)) refl
      same_bytes_lem false e = exact.counts e ∙ (λ i. end_line (same_passed i) (same_withheld i) (same_unmatched i))
