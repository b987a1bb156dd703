-- Where the words of a query stand does not matter to what it names and what is wrong with it. Assumes nothing.
use lib.ListN.{length-map}
use mathlib.Core.Bool.{Bool, cond, false, true}
use mathlib.Core.List.{List, [], ◌++◌, ◌∷◌, map}
use mathlib.Core.Option
use mathlib.Core.Option.{Option, none, some}
use mathlib.Core.Path.{◌∙◌, ◌≡◌, ap, refl, sym}
use Rattle.condition.proofs.CondLaws.{comparisons_in_map, map_cond_map}
use Rattle.condition.proofs.CondPlaces.{mistyped_placeless, placeless_compared}
use Rattle.condition.specs.Comparison.{Comparison}
use Rattle.condition.specs.Cond.{Cond, comparisons_in, map_cond}
use Rattle.condition.specs.CondForm.{Compared, Ref, mistyped}
use Rattle.condition.specs.Kinds.{Kind}
use Rattle.document.specs.Lookup.{column_kind, column_of, columns_of, labelling_of, purpose_of, role_of, table_of}
use Rattle.document.specs.Open.{column_open, table_open}
use Rattle.document.specs.Policy.{Column, Policy}
use Rattle.query.proofs.WantedLaws.{gaps_map, selected_map}
use Rattle.query.specs.Query.{closed_part, column_comparison, columns_in, missing_date, mistyped_query, is_missing_date, open_for, resolved, source_of, unknown_column, unknown_party, wanted_of}
use Rattle.query.specs.QueryForm.{QueryForm, Wanted, counts_only, has_gaps, map_wanted, named_refs, named_words, plain_ref, rows_of, selected_refs, selected_words, tested_refs, withholding_refs, within_bounds}
use Rattle.lists.proofs.KeptLaws.{keep_map}
use Rattle.lists.proofs.ListLaws.{map_append, map_map}
use Rattle.text.proofs.Places.{leftmost_placeless, unless_placeless}
use Rattle.text.proofs.ReadBack.{placeless}
use Rattle.lists.specs.Lists.{any_of, found, keep, or_zero, there}
use Rattle.text.specs.Offending.{leftmost, missing, offending_if, unless}
use Rattle.text.specs.Words.{Word, is_called, plain_word}

-- a query without places
unfoldable pub placeless_query : QueryForm → QueryForm
placeless_query q = record {
  user = placeless q.user;
  role = placeless q.role;
  purpose = placeless q.purpose;
  table = placeless q.table;
  wanted = map_wanted placeless q.wanted;
  condition = Option.map (map_cond placeless_compared) q.condition;
}

-- ---- the words

selected_placeless : (q : QueryForm) → selected_words (placeless_query q) ≡ map placeless (selected_words q)
unfolding selected_words placeless_query
selected_placeless q = selected_map placeless q.wanted

comparisons_placeless : (q : QueryForm) → comparisons_in (placeless_query q).condition ≡ map placeless_compared (comparisons_in q.condition)
unfolding placeless_query
comparisons_placeless q = comparisons_in_map placeless_compared q.condition

-- a column without places
abbrev placeless_ref : Ref → Ref
placeless_ref r = record { table = placeless r.table; column = placeless r.column }

picked_placeless : (q : QueryForm) → selected_refs (placeless_query q) ≡ map placeless_ref (selected_refs q)
unfolding selected_refs placeless_query
picked_placeless q =
    ap (map (plain_ref (placeless_query q))) (selected_placeless q)
    ∙ map_map (plain_ref (placeless_query q)) placeless (selected_words q)
    ∙ sym (map_map placeless_ref (plain_ref q) (selected_words q))

tested_placeless : (q : QueryForm) → tested_refs (placeless_query q) ≡ map placeless_ref (tested_refs q)
unfolding tested_refs placeless_query placeless_compared
tested_placeless q =
    ap (map (λ x. plain_ref (placeless_query q) x.of)) (comparisons_placeless q)
    ∙ map_map (λ (x : Compared). plain_ref (placeless_query q) x.of) placeless_compared (comparisons_in q.condition)
    ∙ sym (map_map placeless_ref (λ (x : Compared). plain_ref q x.of) (comparisons_in q.condition))

refs_placeless : (q : QueryForm) → named_refs (placeless_query q) ≡ map placeless_ref (named_refs q)
unfolding named_refs
refs_placeless q = (λ i. picked_placeless q i ++ tested_placeless q i) ∙ sym (map_append placeless_ref (selected_refs q) (tested_refs q))

withholding_placeless : (q : QueryForm) → withholding_refs (placeless_query q) ≡ map placeless_ref (withholding_refs q)
unfolding withholding_refs placeless_query
withholding_placeless q = (λ i. cond (gaps_map placeless q.wanted i) (tested_placeless q i) (refs_placeless q i)) ∙ go (has_gaps q.wanted)
  where
    go : (b : Bool) → cond b (map placeless_ref (tested_refs q)) (map placeless_ref (named_refs q)) ≡ map placeless_ref (cond b (tested_refs q) (named_refs q))
    go true = refl
    go false = refl

pub named_placeless : (q : QueryForm) → named_words (placeless_query q) ≡ map placeless (named_words q)
unfolding named_words
named_placeless q =
    ap (map (λ (r : Ref). r.column)) (refs_placeless q)
    ∙ map_map (λ (r : Ref). r.column) placeless_ref (named_refs q)
    ∙ sym (map_map placeless (λ (r : Ref). r.column) (named_refs q))

pub bounds_placeless : (q : QueryForm) → within_bounds (placeless_query q) ≡ within_bounds q
unfolding within_bounds
bounds_placeless q = rw (selected_placeless q, comparisons_placeless q, length-map (selected_words q), length-map (comparisons_in q.condition))

-- ---- the tests: each offending word is the same up to its place

-- tests of things that have places
tests_placeless : {A : Type 0} (e : A → A) (g : A → Option Word) → ((x : A) → g (e x) ≡ Option.map placeless (g x)) → (xs : List A) → leftmost (map g (map e xs)) ≡ Option.map placeless (leftmost (map g xs))
tests_placeless {A} e g h xs = ap leftmost (go xs) ∙ leftmost_placeless (map g xs)
  where
    go : (xs : List A) → map g (map e xs) ≡ map (Option.map placeless) (map g xs)
    go [] = refl
    go (x ∷ xs) = λ i. h x i ∷ go xs i

pub missing_placeless : (f : Word → Bool) → ((w : Word) → f (placeless w) ≡ f w) → (ws : List Word) → missing f (map placeless ws) ≡ Option.map placeless (missing f ws)
unfolding missing
missing_placeless f h ws = tests_placeless placeless (λ w. unless (f w) w) (λ w. ap (λ b. unless b (placeless w)) (h w) ∙ unless_placeless (f w) w) ws

module _ (d : Policy) (q : QueryForm) where
  pub party_placeless : unknown_party d (placeless_query q) ≡ Option.map placeless (unknown_party d q)
  unfolding unknown_party placeless_query role_of purpose_of is_called placeless plain_word
  party_placeless = (λ i. leftmost (unless_placeless (any_of (λ x. is_called q.user x.name) d.users) q.user i ∷ unless_placeless (there (role_of d q.role)) q.role i
      ∷ unless_placeless (there (purpose_of d q.purpose)) q.purpose i ∷ [])) ∙ leftmost_placeless (_ ∷ _ ∷ _ ∷ [])

  pub column_placeless : unknown_column d (placeless_query q) ≡ Option.map placeless (unknown_column d q)
  unfolding unknown_column columns_of table_of is_called placeless plain_word column_of placeless_query
  column_placeless =
      (λ i. leftmost (unless_placeless (there (table_of d q.table)) q.table i
      ∷ (ap (missing (λ w. there (column_of (columns_of d q.table) w))) (named_placeless q) ∙ missing_placeless (λ w. there (column_of (columns_of d q.table) w)) (λ w. refl) (named_words q)) i ∷ []))
      ∙ leftmost_placeless (_ ∷ _ ∷ [])

  pub closed_placeless : closed_part d (placeless_query q) ≡ Option.map placeless (closed_part d q)
  unfolding closed_part open_for columns_of labelling_of table_of purpose_of is_called placeless plain_word column_of placeless_query
  closed_placeless =
      let f : Word → Bool = λ w. column_open (open_for d q) (labelling_of d q.table) (or_zero (column_of (columns_of d q.table) w)) in
      (λ i. leftmost (unless_placeless (table_open (open_for d q) (labelling_of d q.table)) q.table i ∷ (ap (missing f) (named_placeless q) ∙ missing_placeless f (λ w. refl) (named_words q)) i ∷ []))
      ∙ leftmost_placeless (_ ∷ _ ∷ [])

  pub types_placeless : mistyped_query d (placeless_query q) ≡ Option.map placeless (mistyped_query d q)
  unfolding mistyped_query column_kind columns_of table_of is_called placeless plain_word column_of placeless_query placeless_compared
  types_placeless =
      let f : Word → Kind = column_kind (columns_of d q.table) in
      ap (λ l. leftmost (map (λ (x : Compared). mistyped (f x.of) x) l)) (comparisons_placeless q)
      ∙ tests_placeless placeless_compared (λ x. mistyped (f x.of) x) (λ x. mistyped_placeless f (λ w. refl) x) (comparisons_in q.condition)

offending_placeless : (b : Bool) (w : Word) → offending_if b (placeless w) ≡ Option.map placeless (offending_if b w)
unfolding offending_if
offending_placeless true w = refl
offending_placeless false w = refl

pub dates_placeless : (q : QueryForm) → missing_date (placeless_query q) ≡ Option.map placeless (missing_date q)
unfolding missing_date placeless_compared placeless plain_word
dates_placeless q =
    let f : Compared → Option Word = λ x. offending_if (is_missing_date x.value.bytes) x.value in
    ap (λ l. leftmost (map f l)) (comparisons_placeless q)
    ∙ tests_placeless placeless_compared f (λ x. offending_placeless (is_missing_date x.value.bytes) x.value) (comparisons_in q.condition)

wanted_placeless : (cs : List Column) (w : Wanted Word) → wanted_of cs (map_wanted placeless w) ≡ wanted_of cs w
unfolding wanted_of map_wanted column_of is_called placeless plain_word
wanted_placeless cs (rows_of v ws) = ap (rows_of v) (map_map (λ w. or_zero (column_of cs w)) placeless ws)
wanted_placeless cs counts_only = refl

condition_placeless : (cs : List Column) (o : Option (Cond Compared)) → Option.map (map_cond (column_comparison cs)) (Option.map (map_cond placeless_compared) o) ≡ Option.map (map_cond (column_comparison cs)) o
unfolding column_comparison column_kind column_of is_called placeless plain_word placeless_compared
condition_placeless cs none = refl
condition_placeless cs (some c) = ap {B = Option (Cond Comparison)} some (map_cond_map (column_comparison cs) placeless_compared c)

columns_placeless : (d : Policy) (t : Word) (rs : List Ref) → columns_in d (placeless t) (map placeless_ref rs) ≡ columns_in d t rs
unfolding columns_in columns_of table_of column_of is_called placeless plain_word
columns_placeless d t rs =
    ap (λ l. found (map (λ (r : Ref). column_of (columns_of d t) r.column) l)) (keep_map (λ (r : Ref). is_called r.table t.bytes) placeless_ref rs)
    ∙ ap found (map_map (λ (r : Ref). column_of (columns_of d t) r.column) placeless_ref (keep (λ r. is_called r.table t.bytes) rs))

source_placeless : (d : Policy) (q : QueryForm) → source_of d (placeless_query q) (placeless q.table) ≡ source_of d q q.table
unfolding source_of table_of is_called placeless plain_word
source_placeless d q = λ i. record {
  table = or_zero (table_of d q.table);
  named = (ap (columns_in d (placeless q.table)) (refs_placeless q) ∙ columns_placeless d q.table (named_refs q)) i;
  withholding = (ap (columns_in d (placeless q.table)) (withholding_placeless q) ∙ columns_placeless d q.table (withholding_refs q)) i;
}

pub resolved_placeless : (d : Policy) (q : QueryForm) → resolved d (placeless_query q) ≡ resolved d q
unfolding resolved placeless_query purpose_of table_of columns_of is_called placeless plain_word
resolved_placeless d q =
    let cs : List Column = columns_of d q.table in
    λ i. record {
      purpose = or_zero (purpose_of d q.purpose);
      source = source_placeless d q i;
      wanted = wanted_placeless cs q.wanted i;
      condition = condition_placeless cs q.condition i;
    }
