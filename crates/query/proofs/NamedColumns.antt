-- The columns that a resolved query names. Assumes nothing.
use Prim.Native.Nat.{ℕ}
use mathlib.Core.Bool.{Bool, cond, false, true}
use mathlib.Core.List.{List, [], ◌++◌, ◌∷◌, map}
use mathlib.Core.Option
use mathlib.Core.Option.{Option, none, some}
use mathlib.Core.Path.{◌∙◌, ◌≡◌, ap, refl, sym}
use Rattle.condition.proofs.CondLaws.{comparisons_in_map}
use Rattle.condition.specs.Comparison.{Comparison}
use Rattle.condition.specs.Cond.{Cond, comparisons_in, map_cond}
use Rattle.condition.specs.CondForm.{Compared}
use Rattle.document.specs.Lookup.{column_of, columns_of, labelling_at, labelling_of, purpose_of}
use Rattle.document.specs.Open.{column_open, open_to, table_open}
use Rattle.document.specs.Policy.{Column, Policy}
use Rattle.query.proofs.Sources.{named_columns, named_words_are, sources_known, withholding_columns, withholding_words_are, withholding_words}
use Rattle.query.proofs.WantedLaws.{gaps_map, selected_map}
use Rattle.query.specs.Query.{NamesParts, PartsOpen, closed_part, column_comparison, open_for, resolved, source_of, sources, tested, unknown_column, unknown_party, wanted_of}
use Rattle.query.specs.QueryForm.{QueryForm, Wanted, has_gaps, named_words, selected, selected_words}
use Rattle.lists.proofs.ListLaws.{all_at, all_parts, map_append, map_map, there_some}
use Rattle.text.proofs.OffendingLaws.{leftmost_head, leftmost_tail, missing_none, unless_none}
use Rattle.lists.proofs.Tests.{and_left, and_right}
use Rattle.lists.specs.Lists.{all_of, found, member, or_zero, there}
use Rattle.text.specs.Words.{Word}

-- the number of the column that a word names
abbrev pub column_number : List Column → Word → ℕ
column_number cs w = or_zero (column_of cs w)

selected_words_lem : (cs : List Column) (w : Wanted Word) → selected (wanted_of cs w) ≡ map (column_number cs) (selected w)
unfolding wanted_of
selected_words_lem cs w = selected_map (column_number cs) w

condition_words : (cs : List Column) (o : Option (Cond Compared))
    → map (λ (t : Comparison). t.of) (comparisons_in (Option.map (map_cond (column_comparison cs)) o)) ≡ map (column_number cs) (map (λ (x : Compared). x.of) (comparisons_in o))
unfolding column_comparison
condition_words cs o =
    rw (comparisons_in_map (column_comparison cs) o, map_map (λ (t : Comparison). t.of) (column_comparison cs) (comparisons_in o), map_map (column_number cs) (λ (x : Compared). x.of) (comparisons_in o))

-- where every word names a column, the named columns are those that are found
pub found_known : (cs : List Column) (ws : List Word) → all_of (λ w. there (column_of cs w)) ws ≡ true → found (map (column_of cs) ws) ≡ map (column_number cs) ws
unfolding all_of found or_zero
found_known cs [] h = refl
found_known cs (w ∷ ws) h =
    rw (there_some (column_of cs w) (and_left (there (column_of cs w)) _ h)) (ap (λ l. column_number cs w ∷ l) (found_known cs ws (and_right (there (column_of cs w)) _ h)))

-- a query of known columns names those of its words
pub named_words_lem : (d : Policy) (q : QueryForm) → all_of (λ w. there (column_of (columns_of d q.table) w)) (named_words q) ≡ true
    → (resolved d q).source.named ≡ map (column_number (columns_of d q.table)) (named_words q)
unfolding resolved
named_words_lem d q h = named_columns d q ∙ found_known (columns_of d q.table) (named_words q) h

-- all of the condition's words are known
tested_known : (d : Policy) (q : QueryForm) → all_of (λ w. there (column_of (columns_of d q.table) w)) (named_words q) ≡ true
    → all_of (λ w. there (column_of (columns_of d q.table) w)) (map (λ (x : Compared). x.of) (comparisons_in q.condition)) ≡ true
tested_known d q h = (all_parts (λ w. there (column_of (columns_of d q.table) w)) (selected_words q) _ (ap (all_of (λ w. there (column_of (columns_of d q.table) w))) (sym (named_words_are q)) ∙ h)).1

-- the words that withhold stand for their columns
pub withholding_words_lem : (d : Policy) (q : QueryForm) → all_of (λ w. there (column_of (columns_of d q.table) w)) (named_words q) ≡ true
    → (resolved d q).source.withholding ≡ map (column_number (columns_of d q.table)) (withholding_words q)
unfolding resolved
withholding_words_lem d q h = withholding_columns d q ∙ found_known (columns_of d q.table) (withholding_words q) (ap (all_of (λ w. there (column_of (columns_of d q.table) w))) (withholding_words_are q) ∙ go (has_gaps q.wanted))
  where
    go : (b : Bool) → all_of (λ w. there (column_of (columns_of d q.table) w)) (cond b (map (λ (x : Compared). x.of) (comparisons_in q.condition)) (named_words q)) ≡ true
    go true = tested_known d q h
    go false = h

-- the condition's columns by number
tested_words : (d : Policy) (q : QueryForm) → tested (resolved d q) ≡ map (column_number (columns_of d q.table)) (map (λ (x : Compared). x.of) (comparisons_in q.condition))
unfolding tested resolved
tested_words d q = condition_words (columns_of d q.table) q.condition

-- the named words by number are the selected columns, and then the condition's
named_numbers : (d : Policy) (q : QueryForm) → map (column_number (columns_of d q.table)) (named_words q) ≡ selected (resolved d q).wanted ++ tested (resolved d q)
unfolding resolved selected_words
named_numbers d q =
    let cs : List Column = columns_of d q.table in
    ap (map (column_number cs)) (named_words_are q)
    ∙ map_append (column_number cs) (selected q.wanted) (map (λ x. x.of) (comparisons_in q.condition))
    ∙ (λ i. sym (selected_words_lem cs q.wanted) i ++ sym (tested_words d q) i)

-- so a query of known columns names its parts
pub names_parts : (d : Policy) (q : QueryForm) → all_of (λ w. there (column_of (columns_of d q.table) w)) (named_words q) ≡ true → NamesParts (resolved d q)
unfolding resolved wanted_of
names_parts d q h = record {
  named = named_words_lem d q h ∙ named_numbers d q;
  withholding =
      withholding_words_lem d q h ∙ ap (map (column_number cs)) (withholding_words_are q) ∙ go (has_gaps q.wanted)
      ∙ ap (λ b. cond b (tested (resolved d q)) (selected (resolved d q).wanted ++ tested (resolved d q))) (sym (gaps_map (column_number cs) q.wanted));
}
  where
    cs : List Column
    cs = columns_of d q.table

    go : (b : Bool) → map (column_number cs) (cond b (map (λ (x : Compared). x.of) (comparisons_in q.condition)) (named_words q)) ≡ cond b (tested (resolved d q)) (selected (resolved d q).wanted ++ tested (resolved d q))
    go true = sym (tested_words d q)
    go false = named_numbers d q

-- ---- a query that is not refused with 12, 15 or 17

module _ (d : Policy) (q : QueryForm) where
  pub purpose_known : unknown_party d q ≡ none → purpose_of d q.purpose ≡ some (resolved d q).purpose
  unfolding unknown_party resolved
  purpose_known h = there_some (purpose_of d q.purpose) (unless_none _ _ (leftmost_head _ _ (leftmost_tail _ _ (leftmost_tail _ _ h))))

  pub source_known : unknown_column d q ≡ none → sources d q ≡ (resolved d q).source ∷ []
  unfolding unknown_column resolved
  source_known h = sources_known d q (unless_none _ _ (leftmost_head _ _ h))

  pub columns_known : unknown_column d q ≡ none → all_of (λ w. there (column_of (columns_of d q.table) w)) (named_words q) ≡ true
  unfolding unknown_column
  columns_known h = missing_none _ _ (leftmost_head _ _ (leftmost_tail _ _ h))

  pub table_open_lem : closed_part d q ≡ none → table_open (open_to d (resolved d q).purpose) (labelling_at d (resolved d q).source.table) ≡ true
  unfolding closed_part open_for resolved source_of labelling_of
  table_open_lem h = unless_none _ _ (leftmost_head _ _ h)

  pub columns_open : unknown_column d q ≡ none → closed_part d q ≡ none
      → (k : ℕ) → member k (resolved d q).source.named ≡ true → column_open (open_to d (resolved d q).purpose) (labelling_at d (resolved d q).source.table) k ≡ true
  unfolding closed_part open_for resolved source_of labelling_of
  columns_open u h k m =
      all_at (column_number (columns_of d q.table)) (column_open (open_to d (or_zero (purpose_of d q.purpose))) (labelling_of d q.table)) (named_words q)
      (missing_none _ _ (leftmost_head _ _ (leftmost_tail _ _ h)))
      k (sym (ap (member k) (named_words_lem d q (columns_known u))) ∙ m)

  pub parts_open : unknown_column d q ≡ none → closed_part d q ≡ none → PartsOpen d (resolved d q)
  parts_open u h = record { table = table_open_lem h; columns = columns_open u h }
