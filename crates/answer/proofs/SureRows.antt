-- Rows passed by sure and by possible (02, Q-12): each row passed by sure is passed for every choice of numbers, and each row that some
-- choice passes is passed by possible; without ranges in the columns compared, sure, possible and select are the same. Assumes nothing.
use Prim.Native.Nat.{suc, zero, ℕ}
use borrow.Author.Tests.{eqb-true, not-true}
use lib.Dec.{eqb}
use lib.ListN.{get_or, get_elem?, length}
use mathlib.Core.Bool.{Bool, ◌&&◌, cond, false, not, true}
use mathlib.Core.List.{List, [], ◌∷◌}
use mathlib.Core.Option.{Option, map, none-ne-some, some-injective, none, some}
use mathlib.Core.Path.{◌∙◌, ◌≡◌, ap, refl, sym}
use native.Mathlib.Omega.{arith}
use Rattle.answer.proofs.NamesPlain.{accepted_plain, names_plain, number_plain, plain_word_lem, rows_plain}
use Rattle.answer.specs.Answer.{matches, satisfies}
use Rattle.answer.specs.Choices.{ChosenDocument, ChosenRow, Covered, asking}
use Rattle.answer.specs.Exactly.{is_given, is_withheld_row}
use Rattle.answer.specs.Ranged.{has_range, ranged_at, ranged_column, ranged_word}
use Rattle.answer.specs.Seen.{rows_in}
use Rattle.condition.proofs.CondLaws.{comparisons_map}
use Rattle.condition.proofs.RangeLaws.{fits_mode, passes_possible, points, sure_passes}
use Rattle.condition.specs.Comparison.{Comparison, meets}
use Rattle.condition.specs.Cond.{Cond, comparisons, comparisons_in, holds, map_cond}
use Rattle.condition.specs.CondForm.{Compared}
use Rattle.condition.specs.Ranges.{Chosen, Mode, passes_in, possible, sure}
use Rattle.document.specs.Check.{Accepted, check}
use Rattle.document.specs.Lookup.{column_of, columns_at, columns_of, labelling_at, purpose_of, table_of}
use Rattle.document.specs.Open.{open_to, row_withheld}
use Rattle.document.specs.Policy.{Column, Doc, Policy, Row}
use Rattle.lists.proofs.KeptLaws.{all_append}
use Rattle.lists.proofs.ListLaws.{all_everywhere, all_here, all_map}
use Rattle.lists.proofs.Tests.{and_both, and_left, and_right, neither_left, neither_right, true_not_false}
use Rattle.lists.specs.Lists.{all_of, any_of, keep, or_zero, there}
use Rattle.query.proofs.Sources.{named_words_are}
use Rattle.query.specs.Query.{column_comparison, resolved, source_of, wanted_of}
use Rattle.query.specs.QueryForm.{QueryForm, Verb, admits_ranges, has_gaps, leaves_gaps, map_wanted, mode_in, mode_of, named_refs, named_words, possibly, select, selected, selected_refs, selected_words, surely, takes_ranges, tested_refs, withholding_refs}
use Rattle.text.proofs.OffendingLaws.{missing_none}
use Rattle.text.specs.Amounts.{Range, is_range, range_of}
use Rattle.text.specs.Numbers.{Value}
use Rattle.text.specs.Refusal.{accepted}
use Rattle.text.specs.Words.{Word}

-- ---- one row

-- a choice is no range
chosen_plain : (v w : Value) → Chosen v w → is_range w ≡ false
chosen_plain v w h = go (range_of v) refl
  where
    go : (o : Option Range) → range_of v ≡ o → is_range w ≡ false
    go none e = let k : is_range v ≡ false = unfold is_range there in ap there e in ap is_range (h.itself k) ∙ k
    go (some r) e = let x = h.within r e in number_plain w x.0 x.1

always : {A : Type 0} (p : A → Bool) → ((x : A) → p x ≡ true) → (xs : List A) → all_of p xs ≡ true
unfolding all_of
always p h [] = refl
always p h (x ∷ xs) = and_both (p x) _ (h x) (always p h xs)

-- vs are the values of a row, and ws a choice for them; the condition compares no range as a name
module _ (vs ws : List Value) (choice : (c : ℕ) → Chosen (get_or vs c []) (get_or ws c [])) where
  choice_plain : (m : Mode) (c : Cond Comparison) → passes_in m (λ i. get_or ws i []) c ≡ holds (λ t. meets t (get_or ws t.of [])) c
  choice_plain m c = points m (λ i. get_or ws i []) c (always _ (λ t. ap not (chosen_plain (get_or vs t.of []) (get_or ws t.of []) (choice t.of))) (comparisons c))

  sure_matches : (o : Option (Cond Comparison)) → all_of (λ t. fits_mode t.kind (get_or vs t.of [])) (comparisons_in o) ≡ true → matches sure o vs ≡ true → matches sure o ws ≡ true
  unfolding matches comparisons_in
  sure_matches none fits h = refl
  sure_matches (some c) fits h = choice_plain sure c ∙ sure_passes (λ i. get_or vs i []) (λ i. get_or ws i []) choice c fits h

  matches_possible : (o : Option (Cond Comparison)) → all_of (λ t. fits_mode t.kind (get_or vs t.of [])) (comparisons_in o) ≡ true → matches sure o ws ≡ true → matches possible o vs ≡ true
  unfolding matches comparisons_in
  matches_possible none fits h = refl
  matches_possible (some c) fits h = passes_possible (λ i. get_or vs i []) (λ i. get_or ws i []) choice c fits (sym (choice_plain sure c) ∙ h)

-- ---- the rows of a document

-- a condition compares no range of such a row as a name
resolved_fits : (cs : List Column) (vs : List Value) → names_plain cs vs ≡ true → (o : Option (Cond Compared))
    → all_of (λ t. fits_mode t.kind (get_or vs t.of [])) (comparisons_in (map (map_cond (column_comparison cs)) o)) ≡ true
unfolding comparisons_in column_comparison
resolved_fits cs vs h none = unfold all_of in refl
resolved_fits cs vs h (some c) =
    ap (all_of (λ (t : Comparison). fits_mode t.kind (get_or vs t.of []))) (comparisons_map (column_comparison cs) c)
    ∙ all_map (λ (t : Comparison). fits_mode t.kind (get_or vs t.of [])) (column_comparison cs) (comparisons c)
    ∙ always _ (λ x. plain_word_lem cs vs h x.of) (comparisons c)

module _ (d : Policy) (q : QueryForm) where
  -- the row with these labels is withheld from the query, however its rows are asked for: no gaps are left
  abbrev held : List ℕ → Bool
  held ls = row_withheld (open_to d (or_zero (purpose_of d q.purpose))) (labelling_at d (or_zero (table_of d q.table))) (resolved d (asking select q)).source.withholding ls

  -- the condition is sure, or possible, of the values
  abbrev met : Mode → List Value → Bool
  met m vs = matches m (map (map_cond (column_comparison (columns_of d q.table))) q.condition) vs

  -- the row is given, the rows being asked for in this way
  abbrev gives : Verb → Row → Bool
  gives v r = not (row_withheld (open_to d (resolved d (asking v q)).purpose) (labelling_at d (resolved d (asking v q)).source.table) (resolved d (asking v q)).source.withholding r.labels) && satisfies (resolved d (asking v q)) r.values

  gives_select : (r : Row) → gives select r ≡ (not (held r.labels) && met sure r.values)
  unfolding resolved source_of wanted_of map_wanted mode_in mode_of satisfies asking
  gives_select r = refl

  gives_surely : (r : Row) → gives surely r ≡ (not (held r.labels) && met sure r.values)
  unfolding resolved source_of wanted_of map_wanted mode_in mode_of satisfies asking withholding_refs has_gaps leaves_gaps named_refs selected_refs tested_refs selected_words selected
  gives_surely r = refl

  gives_possibly : (r : Row) → gives possibly r ≡ (not (held r.labels) && met possible r.values)
  unfolding resolved source_of wanted_of map_wanted mode_in mode_of satisfies asking withholding_refs has_gaps leaves_gaps named_refs selected_refs tested_refs selected_words selected
  gives_possibly r = refl

  module _ (r s : Row) (c : ChosenRow r s) (here : r.table ≡ or_zero (table_of d q.table)) (typed : names_plain (columns_at d r.table) r.values ≡ true) where
    fits : all_of (λ t. fits_mode t.kind (get_or r.values t.of [])) (comparisons_in (map (map_cond (column_comparison (columns_of d q.table))) q.condition)) ≡ true
    fits = resolved_fits (columns_of d q.table) r.values (unfold columns_of in ap (λ (t : ℕ). names_plain (columns_at d t) r.values) (sym here) ∙ typed) q.condition

    sure_given : gives surely r ≡ true → gives select s ≡ true
    sure_given h =
        let g = sym (gives_surely r) ∙ h in
        gives_select s ∙ and_both (not (held s.labels)) _ (ap (λ ls. not (held ls)) c.labels ∙ and_left (not (held r.labels)) _ g)
        (sure_matches r.values s.values c.values _ fits (and_right (not (held r.labels)) _ g))

    given_possible : gives select s ≡ true → gives possibly r ≡ true
    given_possible h =
        let g = sym (gives_select s) ∙ h in
        gives_possibly r ∙ and_both (not (held r.labels)) _ (ap (λ ls. not (held ls)) (sym c.labels) ∙ and_left (not (held s.labels)) _ g)
        (matches_possible r.values s.values c.values _ fits (and_right (not (held s.labels)) _ g))

-- equally many elements stand at the same positions
beside : {A : Type 0} (xs ys : List A) → length ys ≡ length xs → (i : ℕ) (x : A) → get_elem? xs i ≡ some x → (y : A) × (get_elem? ys i ≡ some y)
beside [] ys l i x e = absurd (none-ne-some x e)
beside (a ∷ xs) [] l i x e = absurd (omega (arith, l))
beside (a ∷ xs) (b ∷ ys) l zero x e = (b, refl)
beside (a ∷ xs) (b ∷ ys) l (suc i) x e = beside xs ys (omega (arith, l)) i x e

-- EVERY CHOICE: each row of an accepted document that sure passes is passed in the document with any choice of numbers, and each row
-- that is passed there is passed by possible.
pub choices_covered : (doc : List ℕ) (A : Accepted) → check doc ≡ accepted A → (e : Doc) → ChosenDocument A.doc e → (q : QueryForm) → Covered A.doc e q
unfolding is_given is_withheld_row resolved source_of asking
choices_covered doc A is_A e ch q = record {
  sure = λ i g.
      let x = beside A.doc.rows e.rows ch.equally_many i g.row g.stands in
      let c = ch.each i g.row x.0 g.stands x.1 in
      record {
        row = x.0;
        stands = x.1;
        in_table = (λ k. eqb (c.table k) (or_zero (table_of (ch.policy k) q.table))) ∙ g.in_table;
        given = ap (λ (P : Policy). gives P q select x.0) ch.policy ∙ sure_given A.doc.policy q g.row x.0 c (eqb-true _ _ g.in_table) (typed i g.row g.stands) g.given;
      };
  possible = λ i g.
      let x = beside e.rows A.doc.rows (sym ch.equally_many) i g.row g.stands in
      let c = ch.each i x.0 g.row x.1 g.stands in
      let here : eqb x.0.table (or_zero (table_of A.doc.policy q.table)) ≡ true = sym (λ k. eqb (c.table k) (or_zero (table_of (ch.policy k) q.table))) ∙ g.in_table in
      record {
        row = x.0;
        stands = x.1;
        in_table = here;
        given = given_possible A.doc.policy q x.0 g.row c (eqb-true _ _ here) (typed i x.0 x.1) (ap (λ (P : Policy). gives P q select g.row) (sym ch.policy) ∙ g.given);
      };
}
  where
    typed : (i : ℕ) (r : Row) → get_elem? A.doc.rows i ≡ some r → names_plain (columns_at A.doc.policy r.table) r.values ≡ true
    typed i r s = unfold rows_plain in all_here (λ (r : Row). names_plain (columns_at A.doc.policy r.table) r.values) A.doc.rows (accepted_plain doc A is_A) i r s

-- ---- without ranges

-- a column of which no row has a range has none in this row
none_ranged : (t c : ℕ) (r : Row) → eqb r.table t ≡ true → (rs : List Row) (i : ℕ) → get_elem? rs i ≡ some r → any_of (ranged_at c) (rows_in t rs) ≡ false → ranged_at c r ≡ false
unfolding rows_in keep any_of
none_ranged t c r here [] i s h = absurd (none-ne-some r s)
none_ranged t c r here (x ∷ rs) zero s h =
    let e : x ≡ r = some-injective _ _ s in
    ap (ranged_at c) (sym e) ∙ first (eqb x.table t) (ap (λ (y : Row). eqb y.table t) e ∙ here) h
  where
    first : (b : Bool) → b ≡ true → any_of (ranged_at c) (cond b (x ∷ keep (λ (y : Row). eqb y.table t) rs) (keep (λ (y : Row). eqb y.table t) rs)) ≡ false → ranged_at c x ≡ false
    first true e h = unfold any_of in neither_left (ranged_at c x) _ h
    first false e h = true_not_false e refl
none_ranged t c r here (x ∷ rs) (suc i) s h = none_ranged t c r here rs i s (later (eqb x.table t) h)
  where
    later : (b : Bool) → any_of (ranged_at c) (cond b (x ∷ keep (λ (y : Row). eqb y.table t) rs) (keep (λ (y : Row). eqb y.table t) rs)) ≡ false → any_of (ranged_at c) (keep (λ (y : Row). eqb y.table t) rs) ≡ false
    later true h = unfold any_of in neither_right (ranged_at c x) _ h
    later false h = h

-- SAME ROWS: where no named column has a range, sure and possible give a row exactly when select does.
module _ (d : Doc) (q : QueryForm) (none_there : ranged_column d (asking select q) ≡ none) (i : ℕ) (r : Row) (s : get_elem? d.rows i ≡ some r) (here : eqb r.table (or_zero (table_of d.policy q.table)) ≡ true) where
  words_plain : all_of (λ w. not (ranged_word d q w)) (named_words (asking select q)) ≡ true
  unfolding ranged_column ranged_word asking admits_ranges takes_ranges
  words_plain = missing_none (λ w. not (ranged_word d q w)) (named_words (asking select q)) none_there

  tested_plain : all_of (λ (x : Compared). not (ranged_word d q x.of)) (comparisons_in q.condition) ≡ true
  unfolding asking
  tested_plain =
      sym (all_map (λ w. not (ranged_word d q w)) (λ (x : Compared). x.of) (comparisons_in q.condition))
      ∙ and_right (all_of (λ w. not (ranged_word d q w)) (selected_words (asking select q))) _
      (sym (all_append (λ w. not (ranged_word d q w)) (selected_words (asking select q)) _) ∙ ap (all_of (λ w. not (ranged_word d q w))) (sym (named_words_are (asking select q))) ∙ words_plain)

  value_plain : (w : Word) → not (ranged_word d q w) ≡ true → not (is_range (get_or r.values (or_zero (column_of (columns_of d.policy q.table) w)) [])) ≡ true
  unfolding ranged_word has_range ranged_at
  value_plain w h = ap not (none_ranged (or_zero (table_of d.policy q.table)) (or_zero (column_of (columns_of d.policy q.table) w)) r here d.rows i s (not-true _ h))

  columns_plain : all_of (λ (x : Compared). not (is_range (get_or r.values (or_zero (column_of (columns_of d.policy q.table) x.of)) []))) (comparisons_in q.condition) ≡ true
  columns_plain = all_everywhere _ (comparisons_in q.condition) (λ k x e. value_plain x.of (all_here (λ (x : Compared). not (ranged_word d q x.of)) (comparisons_in q.condition) tested_plain k x e))

  met_same : met d.policy q possible r.values ≡ met d.policy q sure r.values
  met_same = go q.condition columns_plain
    where
      cols : List Column
      cols = columns_of d.policy q.table

      go : (o : Option (Cond Compared)) → all_of (λ (x : Compared). not (is_range (get_or r.values (or_zero (column_of cols x.of)) []))) (comparisons_in o) ≡ true
          → matches possible (map (map_cond (column_comparison cols)) o) r.values ≡ matches sure (map (map_cond (column_comparison cols)) o) r.values
      go none h = unfold matches in refl
      go (some c) h = unfold matches in points possible (λ k. get_or r.values k []) (map_cond (column_comparison cols) c) (all c h) ∙ sym (points sure (λ k. get_or r.values k []) (map_cond (column_comparison cols) c) (all c h))
        where
          all : (c : Cond Compared) → all_of (λ (x : Compared). not (is_range (get_or r.values (or_zero (column_of cols x.of)) []))) (comparisons_in (some c)) ≡ true
              → all_of (λ t. not (is_range (get_or r.values t.of []))) (comparisons (map_cond (column_comparison cols) c)) ≡ true
          all c h = unfold comparisons_in column_comparison in
              ap (all_of (λ (t : Comparison). not (is_range (get_or r.values t.of [])))) (comparisons_map (column_comparison cols) c)
              ∙ all_map (λ (t : Comparison). not (is_range (get_or r.values t.of []))) (column_comparison cols) (comparisons c) ∙ h

  pub same_surely : is_given d (resolved d.policy (asking surely q)) r ≡ is_given d (resolved d.policy (asking select q)) r
  unfolding is_given is_withheld_row
  same_surely = gives_surely d.policy q r ∙ sym (gives_select d.policy q r)

  pub same_possibly : is_given d (resolved d.policy (asking possibly q)) r ≡ is_given d (resolved d.policy (asking select q)) r
  unfolding is_given is_withheld_row
  same_possibly = gives_possibly d.policy q r ∙ ap (λ b. not (held d.policy q r.labels) && b) met_same ∙ sym (gives_select d.policy q r)
