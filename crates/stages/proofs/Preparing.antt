-- A query prepared for the rows: its columns by number, its comparisons by the places of their operators. Assumes nothing.
use Prim.Native.Nat.{◌+◌, ◌≤◌, ℕ}
use Rattle.answer.specs.Ranged.{has_range, ranged_column, ranged_word}
use Rattle.condition.specs.Cond.{comparisons_in, map_cond}
use Rattle.condition.specs.CondForm.{Compared, mistyped}
use Rattle.document.specs.Lookup.{column_kind, column_of, columns_at, columns_of, labelling_at, labelling_of, notes_of, purpose_of, scheme_at, table_of}
use Rattle.document.specs.Open.{column_open, open_to, table_open}
use Rattle.document.specs.Policy.{Column, Doc, Policy}
use Rattle.form.specs.Form.{Scheme}
use Rattle.index.specs.declared.counts.Counts.{Counts}
use Rattle.judging.proofs.OpenCells.{marks_told}
use Rattle.judging.specs.Marking.{MarkingOf, Marks}
use Rattle.judging.specs.Prepared.{Prepared, first_withholding, wanted_by}
use Rattle.judging.specs.Reading.{Comparable, TestsRead, first_missing, first_wrong}
use Rattle.judging.specs.Tests.{Tested}
use Rattle.judging.specs.declared.marking.Marking.{Marking}
use Rattle.judging.specs.declared.sought.Sought.{Sought}
use Rattle.lists.proofs.ListLaws.{all_map, all_parts, map_append, map_map}
use Rattle.lists.specs.Lists.{all_of, or_zero, there}
use Rattle.query.proofs.BodiesRead as body
use Rattle.query.proofs.BodiesRead.{gaps_are, mode_is_lem, ranges_are, wanted_count}
use Rattle.query.proofs.NamedColumns.{column_number, names_parts, parts_open, withholding_words_lem}
use Rattle.query.proofs.Sources.{named_words_are, withholding_words_are, withholding_words}
use Rattle.query.proofs.WantedLaws.{mode_map}
use Rattle.query.specs.Naming.{NamesPlaced, TestsPlaced, words_at}
use Rattle.query.specs.Query.{NamesParts, PartsOpen, closed_part, column_comparison, missing_date, mistyped_query, open_for, resolved, source_of, unknown_column, wanted_of}
use Rattle.query.specs.QueryForm.{QueryForm, admits_ranges, counts_only, has_gaps, leaves_gaps, map_wanted, mode_in, mode_of, named_words, rows_of, selected, selected_words, takes_ranges}
use Rattle.query.specs.QueryPlaces.{IsQuery, asks_rows, chosen_count, comparison_count, condition_at, form_at, verb_in, verb_of, wanted_at}
use Rattle.query.specs.declared.reading.Question.{Question}
use Rattle.query.specs.declared.reading.Verb.{Verb}
use Rattle.relations.specs.Labels.{Said}
use Rattle.relations.specs.Tables.{Tables}
use Rattle.resolving.specs.Resolved.{Resolves}
use Rattle.stages.proofs.Chain.{no_value_lem, no_word, number_found}
use Rattle.ranging.specs.Promises.{plain_at}
use Rattle.stages.specs.Stages.{ColumnsKnown, Granted, InTable, sought_in}
use Rattle.text.proofs.OffendingLaws.{leftmost_only, missing_none}
use Rattle.text.specs.CodeEnds.{offending_of, offending_value}
use Rattle.text.specs.Offending.{leftmost, missing, unless}
use Rattle.text.specs.Words.{Word, word_of}
use Rattle.std.specs.Prelude as prelude
use Rattle.std.specs.Prelude.{None, Some}
use Rattle.workspace.specs.Found.{FoundBelow, found_as}
use lib.ListN.{drop, length, length-append, length-map, take, take-append-drop}
use lib.Seq.{drop_at, take_at}
use mathlib.Core.Bool.{Bool, cond, false, not, true}
use mathlib.Core.List.{List, [], ◌++◌, ◌∷◌, append_assoc, map}
use mathlib.Core.Option
use mathlib.Core.Option.{Option, none, some}
use mathlib.Core.Path.{◌∙◌, ◌≡◌, ap, refl, subst, sym}
use native.Mathlib.Omega.{arith}

-- ---- a list whose first n are two lists joined

module _ {A : Type 0} (n k m : ℕ) (xs as' bs : List A) (e : take n xs ≡ as' ++ bs) (la : length as' ≡ k) (lb : length bs ≡ m) where
  joined : xs ≡ (as' ++ bs) ++ drop n xs
  joined = sym (take-append-drop n xs) ∙ ap (λ l. l ++ drop n xs) e

  split : xs ≡ as' ++ (bs ++ drop n xs)
  split = joined ∙ append_assoc as' bs (drop n xs)

  firsts : take k xs ≡ as'
  firsts = ap (take k) split ∙ take_at as' (bs ++ drop n xs) k la

  rest : take m (drop k xs) ≡ bs
  rest = ap (λ l. take m (drop k l)) split ∙ ap (take m) (drop_at as' (bs ++ drop n xs) k la) ∙ take_at bs (drop n xs) m lb

  all_of_both : take (k + m) xs ≡ as' ++ bs
  all_of_both = ap (take (k + m)) joined ∙ take_at (as' ++ bs) (drop n xs) (k + m) (omega (arith, length-append as' bs, la, lb))

  -- what is left of them behind the first
  last_of_both : drop k (take (k + m) xs) ≡ bs
  last_of_both = ap (drop k) all_of_both ∙ drop_at as' bs k la

-- ---- the table, by its number

-- the word of a table that is not there is the first that is unknown
pub table_unknown : (d : Policy) (q : QueryForm) → none ≡ table_of d q.table → some q.table ≡ unknown_column d q
unfolding unknown_column leftmost unless there
table_unknown d q e = rw (sym e)

pub table_found : (d : Policy) (q : QueryForm) {x : prelude.Option ℕ} {t k : ℕ} → x ≡ Some t → found_as x ≡ table_of d q.table → FoundBelow x k → InTable d q t k
table_found d q {k} e h b = record { is = sym (number_found e h); inside = subst (λ r. FoundBelow r k) e b }

module _ {d : Policy} {q : QueryForm} {t k : ℕ} (table : InTable d q t k) where
  number_is : or_zero (table_of d q.table) ≡ t
  unfolding or_zero
  number_is = ap or_zero table.is

  columns_are : columns_of d q.table ≡ columns_at d t
  unfolding columns_of
  columns_are = ap (columns_at d) number_is

  labelling_is : labelling_of d q.table ≡ labelling_at d t
  unfolding labelling_of
  labelling_is = ap (labelling_at d) number_is

  -- 15, where the table is there
  column_unknown : unknown_column d q ≡ missing (λ w. there (column_of (columns_at d t) w)) (named_words q)
  unfolding unknown_column unless there leftmost
  column_unknown =
      ap (λ cs. leftmost (unless (there (table_of d q.table)) q.table ∷ missing (λ w. there (column_of cs w)) (named_words q) ∷ [])) columns_are
      ∙ ap (λ o. leftmost (unless (there o) q.table ∷ missing (λ w. there (column_of (columns_at d t) w)) (named_words q) ∷ [])) table.is
      ∙ leftmost_only (missing (λ w. there (column_of (columns_at d t) w)) (named_words q))

-- the named columns were looked for: 15, or their numbers
module _ {d : Policy} {s : List ℕ} (q : Question) {t k n : ℕ} {places ops numbers : List ℕ} {x : prelude.Option ℕ} (table : InTable d (form_at s q) t k)
    (placed : NamesPlaced s q n places ops) (r : Resolves (columns_at d t) s n places x numbers) where
  pub resolves_unknown : offending_of s x ≡ unknown_column d (form_at s q)
  resolves_unknown = r.offends ∙ ap (missing (λ w. there (column_of (columns_at d t) w))) placed.words ∙ sym (column_unknown table)

  pub resolves_known : x ≡ None → ColumnsKnown d (form_at s q) t numbers
  resolves_known e = record {
    number = n;
    numbered = r.numbered e ∙ ap (map (λ w. or_zero (column_of (columns_at d t) w))) placed.words;
    all_there = missing_none (λ w. there (column_of (columns_at d t) w)) (named_words (form_at s q)) (sym (no_word s e resolves_unknown ∙ column_unknown table));
  }

  -- what is closed to purpose p, where y is the table's scheme with its notes and ys are its columns
  abbrev closed : ℕ → Scheme ℕ → List Column → List Word → Option Word
  closed p y ys ws = leftmost (unless (table_open (open_to d p) y) (word_of s q.head.table) ∷ missing (λ w. column_open (open_to d p) y (or_zero (column_of ys w))) ws ∷ [])

  abbrev purpose_of_lem : ℕ
  purpose_of_lem = or_zero (purpose_of d (form_at s q).purpose)

  parts_are : closed purpose_of_lem (labelling_at d t) (columns_at d t) (words_at s n places) ≡ closed_part d (form_at s q)
  unfolding closed_part open_for form_at
  parts_are =
      ap (closed purpose_of_lem (labelling_at d t) (columns_at d t)) placed.words
      ∙ ap (λ ys. closed purpose_of_lem (labelling_at d t) ys (named_words (form_at s q))) (sym (columns_are table))
      ∙ ap (λ y. closed purpose_of_lem y (columns_of d (word_of s q.head.table)) (named_words (form_at s q))) (sym (labelling_is table))

  -- 17: what is closed is what the definition says
  pub parts_judged : x ≡ None → (y : prelude.Option ℕ) {os : List Bool} → Said d purpose_of_lem os
      → (n ≤ 80 → Said d purpose_of_lem os → take n numbers ≡ map (λ w. or_zero (column_of (columns_at d t) w)) (words_at s n places) → offending_of s y ≡ closed purpose_of_lem (labelling_at d t) (columns_at d t) (words_at s n places))
      → offending_of s y ≡ closed_part d (form_at s q)
  parts_judged e y o f = f placed.small o (r.numbered e) ∙ parts_are

-- 27: what has ranges is what the definition says
module _ (d : Doc) {s : List ℕ} (q : Question) {t k n : ℕ} {places ops numbers : List ℕ} {x : prelude.Option ℕ} (table : InTable d.policy (form_at s q) t k)
    (placed : NamesPlaced s q n places ops) (r : Resolves (columns_at d.policy t) s n places x numbers) where
  admits : admits_ranges (form_at s q).wanted ≡ takes_ranges (verb_of (verb_in q.wanted))
  unfolding form_at
  admits = ranges_are s q.wanted

  ranged_are : cond (takes_ranges (verb_of (verb_in q.wanted))) none (missing (plain_at d t) (words_at s n places)) ≡ ranged_column d (form_at s q)
  unfolding ranged_column ranged_word
  ranged_are =
      ap (λ ws. cond (takes_ranges (verb_of (verb_in q.wanted))) none (missing (plain_at d t) ws)) placed.words
      ∙ ap (λ b. cond b none (missing (plain_at d t) (named_words (form_at s q)))) (sym admits)
      ∙ (λ i. cond (admits_ranges (form_at s q).wanted) none (missing (λ w. not (has_range d (sym (number_is table) i) (or_zero (column_of (sym (columns_are table) i) w)))) (named_words (form_at s q))))

  pub ranges_judged : x ≡ None → (y : prelude.Option ℕ) (b : Bool) → b ≡ takes_ranges (verb_of (verb_in q.wanted))
      → (n ≤ 80 → take n numbers ≡ map (λ w. or_zero (column_of (columns_at d.policy t) w)) (words_at s n places) → offending_of s y ≡ cond b none (missing (plain_at d t) (words_at s n places)))
      → offending_of s y ≡ ranged_column d (form_at s q)
  ranges_judged e y b is f = f placed.small (r.numbered e) ∙ ap (λ (z : Bool). cond z none (missing (plain_at d t) (words_at s n places))) is ∙ ranged_are

-- what is sought is asked for as the question says
pub verb_is : (q : Question) (t : ℕ) {g : Sought} (m : Marking) → g ≡ sought_in q t m → takes_ranges (verb_of g.verb) ≡ takes_ranges (verb_of (verb_in q.wanted))
unfolding sought_in
verb_is q t m e = ap (λ (g : Sought). takes_ranges (verb_of g.verb)) e

-- what is asked for, by the numbers of the columns
wanted_by_lem : (ws : List Word) (ys : List Column) (b : Bool) (v : Verb) (ns : List ℕ) → ns ≡ map (λ w. or_zero (column_of ys w)) ws → wanted_of ys (cond b (rows_of (verb_of v) ws) counts_only) ≡ wanted_by b v ns
unfolding wanted_of map_wanted wanted_by
wanted_by_lem ws ys true v ns h = ap (rows_of (verb_of v)) (sym h)
wanted_by_lem ws ys false v ns h = refl

-- ---- the query by its parts

module _ {d : Policy} {s : List ℕ} (q : Question) {t k : ℕ} {numbers ops : List ℕ} (read : IsQuery s q) (table : InTable d (form_at s q) t k)
    (columns : ColumnsKnown d (form_at s q) t numbers) (tests : TestsPlaced s q.test ops) where
  -- the number of the column that a word names
  abbrev K : Word → ℕ
  K w = or_zero (column_of (columns_at d t) w)

  abbrev chosen : ℕ
  chosen = chosen_count q.wanted

  abbrev m : ℕ
  m = comparison_count q.test

  abbrev selected_words_lem : List Word
  selected_words_lem = selected (wanted_at s q.wanted)

  abbrev comparisons : List Compared
  comparisons = comparisons_in (condition_at s q.test)

  abbrev compared_words : List Word
  compared_words = map (λ x. x.of) comparisons

  words_are : named_words (form_at s q) ≡ selected_words_lem ++ compared_words
  unfolding selected_words form_at
  words_are = named_words_are (form_at s q)

  numbers_are : take columns.number numbers ≡ map K selected_words_lem ++ map K compared_words
  numbers_are = columns.numbered ∙ ap (map K) words_are ∙ map_append K selected_words_lem compared_words

  chosen_many : length (map K selected_words_lem) ≡ chosen
  chosen_many = length-map selected_words_lem K ∙ wanted_count s q.wanted read.within.wanted

  tests_many : length (map K compared_words) ≡ m
  tests_many = length-map compared_words K ∙ length-map comparisons (λ (x : Compared). x.of) ∙ tests.number

  first_numbers : take chosen numbers ≡ map K selected_words_lem
  first_numbers = firsts columns.number chosen m numbers (map K selected_words_lem) (map K compared_words) numbers_are chosen_many tests_many

  last_numbers : take m (drop chosen numbers) ≡ map (λ x. K x.of) comparisons
  last_numbers = rest columns.number chosen m numbers (map K selected_words_lem) (map K compared_words) numbers_are chosen_many tests_many ∙ map_map K (λ (x : Compared). x.of) comparisons

  both_numbers : take (chosen + m) numbers ≡ map K (named_words (form_at s q))
  both_numbers = all_of_both columns.number chosen m numbers (map K selected_words_lem) (map K compared_words) numbers_are chosen_many tests_many ∙ sym (map_append K selected_words_lem compared_words) ∙ ap (map K) (sym words_are)

  behind_numbers : drop chosen (take (chosen + m) numbers) ≡ map K compared_words
  behind_numbers = last_of_both columns.number chosen m numbers (map K selected_words_lem) (map K compared_words) numbers_are chosen_many tests_many

  all_there_lem : all_of (λ x. there (column_of (columns_at d t) x.of)) comparisons ≡ true
  all_there_lem =
      sym (all_map (λ w. there (column_of (columns_at d t) w)) (λ (x : Compared). x.of) comparisons)
      ∙ (all_parts (λ w. there (column_of (columns_at d t) w)) selected_words_lem compared_words (ap (all_of (λ w. there (column_of (columns_at d t) w))) (sym words_are) ∙ columns.all_there)).1

  -- the comparisons can be read, g being what is sought as the code finds it
  pub comparable : {g : Sought} {text ts : List ℕ} (m : Marking) → g ≡ sought_in q t m → Tables text ts k d.tables → Comparable text ts s g ops numbers d
  unfolding sought_in
  comparable {text} {ts} m e held = subst (λ g. Comparable text ts s g ops numbers d) (sym e) (record {
    table_count = k;
    tables = held;
    inside = table.inside;
    few = tests.few;
    few_chosen = read.few.columns;
    compared = tests.compared;
    numbers = last_numbers;
    all_there = all_there_lem;
  })

  -- 16: what is mistyped is what the definition says
  types_are : leftmost (map (λ x. mistyped (column_kind (columns_at d t) x.of) x) comparisons) ≡ mistyped_query d (form_at s q)
  unfolding mistyped_query form_at
  types_are = ap (λ ys. leftmost (map (λ x. mistyped (column_kind ys x.of) x) comparisons)) (sym (columns_are table))

  pub types_judged : {g : Sought} {ws : List ℕ} (x : prelude.Option ℕ) (m : Marking) → g ≡ sought_in q t m → TestsRead s g ws (columns_at d g.table) → (g.tests ≤ 64 → offending_value s x ≡ first_wrong s ws g.tests) → offending_value s x ≡ mistyped_query d (form_at s q)
  unfolding sought_in
  types_judged {ws} x m e r h =
      subst (λ g. g.tests ≤ 64 → offending_value s x ≡ first_wrong s ws g.tests) e h tests.few
      ∙ (subst (λ g. TestsRead s g ws (columns_at d g.table)) e r).wrong
      ∙ types_are

  -- 31: which date does not exist is what the definition says
  pub dates_judged : {g : Sought} {ws : List ℕ} (x : prelude.Option ℕ) (m : Marking) → g ≡ sought_in q t m → TestsRead s g ws (columns_at d g.table) → (g.tests ≤ 64 → offending_value s x ≡ first_missing s ws g.tests) → offending_value s x ≡ missing_date (form_at s q)
  unfolding sought_in missing_date form_at
  dates_judged {ws} x m e r h =
      subst (λ g. g.tests ≤ 64 → offending_value s x ≡ first_missing s ws g.tests) e h tests.few
      ∙ (subst (λ g. TestsRead s g ws (columns_at d g.table)) e r).dates

  wanted_are : wanted_of (columns_of d (word_of s q.head.table)) (wanted_at s q.wanted) ≡ wanted_by (asks_rows q.wanted) (verb_in q.wanted) (take chosen numbers)
  unfolding form_at
  wanted_are =
      (λ i. wanted_of (columns_are table i) (body.wanted_are s q.wanted i))
      ∙ wanted_by_lem selected_words_lem (columns_at d t) (asks_rows q.wanted) (verb_in q.wanted) (take chosen numbers) first_numbers

  -- every named column is known
  all_known_lem : all_of (λ w. there (column_of (columns_of d (form_at s q).table) w)) (named_words (form_at s q)) ≡ true
  all_known_lem = ap (λ ys. all_of (λ w. there (column_of ys w)) (named_words (form_at s q))) (columns_are table) ∙ columns.all_there

  names_are : NamesParts (resolved d (form_at s q))
  names_are = names_parts d (form_at s q) all_known_lem

  -- those that withhold stand from the condition's on, where gaps are left, and else from the first on
  withholding_by : (b : Bool) → drop (cond b chosen 0) (take (chosen + m) numbers) ≡ map K (cond b compared_words (named_words (form_at s q)))
  withholding_by true = behind_numbers
  withholding_by false = both_numbers

  withholding_are : drop (cond (leaves_gaps (verb_of (verb_in q.wanted))) chosen 0) (take (chosen + m) numbers) ≡ (resolved d (form_at s q)).source.withholding
  unfolding form_at
  withholding_are =
      ap (λ b. drop (cond b chosen 0) (take (chosen + m) numbers)) (sym (gaps_are s q.wanted))
      ∙ withholding_by (has_gaps (wanted_at s q.wanted))
      ∙ ap (map K) (sym (withholding_words_are (form_at s q)))
      ∙ ap (λ ys. map (column_number ys) (withholding_words (form_at s q))) (sym (columns_are table))
      ∙ sym (withholding_words_lem d (form_at s q) all_known_lem)

  condition_is : Option.map (map_cond (column_comparison (columns_of d (word_of s q.head.table)))) (condition_at s q.test) ≡ Option.map (map_cond (column_comparison (columns_at d t))) (condition_at s q.test)
  unfolding form_at
  condition_is = ap (λ ys. Option.map (map_cond (column_comparison ys)) (condition_at s q.test)) (columns_are table)

-- what was judged with 15 and 17 is known and open
pub parts_known : {d : Policy} (s : List ℕ) (q : Question) {x y : prelude.Option ℕ} → x ≡ None → offending_of s x ≡ unknown_column d (form_at s q)
    → y ≡ None → offending_of s y ≡ closed_part d (form_at s q) → PartsOpen d (resolved d (form_at s q))
parts_known {d} s q e known f opens = parts_open d (form_at s q) (sym (no_word s e known)) (sym (no_word s f opens))

-- rows pass as the verb says
mode_same : (d : Policy) (s : List ℕ) (q : Question) → mode_in (wanted_of (columns_of d (word_of s q.head.table)) (wanted_at s q.wanted)) ≡ mode_of (verb_of (verb_in q.wanted))
unfolding wanted_of
mode_same d s q = mode_map _ (wanted_at s q.wanted) ∙ mode_is_lem s q.wanted

-- the query is prepared for the rows, once its comparisons are read
module _ {text ts ws : List ℕ} {c : Counts} {os : List Bool} {s : List ℕ} (q : Question) {t : ℕ} {numbers ops rs : List ℕ} {d : Doc}
    (h : Granted text ts ws c os s q d) (table : InTable d.policy (form_at s q) t c.tables) (columns : ColumnsKnown d.policy (form_at s q) t numbers) (tests : TestsPlaced s q.test ops)
    (parts : PartsOpen d.policy (resolved d.policy (form_at s q))) where
  as_read : (m : Marking) → MarkingOf ts t os m → TestsRead s (sought_in q t m) rs (columns_at d.policy (sought_in q t m).table) → first_wrong s rs (comparison_count q.test) ≡ none → Prepared text ts ws c.rows os s (sought_in q t m) rs numbers d (resolved d.policy (form_at s q))
  unfolding resolved source_of form_at sought_in first_withholding
  as_read m told r typed = record {
    small = h.small;
    table_count = c.tables;
    tables = h.tables;
    inside = table.inside;
    rows = h.rows;
    table = number_is table;
    said = h.said;
    marking = subst (λ (n : ℕ). Marks d.policy (or_zero (purpose_of d.policy (word_of s q.head.purpose))) m (scheme_at d.policy n) (notes_of d.policy.notes n)) (sym (number_is table)) (marks_told h.tables h.notes table.inside h.said told);
    few_chosen = h.query.few.columns;
    wanted = wanted_are q h.query table columns tests;
    named = names_are q h.query table columns tests;
    parts = parts;
    withholding = withholding_are q h.query table columns tests;
    tested = subst (Tested s rs (comparison_count q.test) (mode_in (wanted_of (columns_of d.policy (word_of s q.head.table)) (wanted_at s q.wanted)))) (sym (condition_is q h.query table columns tests))
        (subst (λ m. Tested s rs (comparison_count q.test) m (Option.map (map_cond (column_comparison (columns_at d.policy t))) (condition_at s q.test))) (sym (mode_same d.policy s q)) (r.tested typed));
  }

  -- by what is sought as the code finds it, x being what was judged with 16
  pub prepared : {g : Sought} {x : prelude.Option ℕ} (m : Marking) → MarkingOf ts t os m → g ≡ sought_in q t m → TestsRead s g rs (columns_at d.policy g.table) → x ≡ None → (g.tests ≤ 64 → offending_value s x ≡ first_wrong s rs g.tests)
      → Prepared text ts ws c.rows os s g rs numbers d (resolved d.policy (form_at s q))
  unfolding sought_in
  prepared {x} m told e r n h =
      subst (λ g. Prepared text ts ws c.rows os s g rs numbers d (resolved d.policy (form_at s q))) (sym e)
      (as_read m told (subst (λ g. TestsRead s g rs (columns_at d.policy g.table)) e r) (sym (no_value_lem s n (subst (λ g. g.tests ≤ 64 → offending_value s x ≡ first_wrong s rs g.tests) e h tests.few))))
