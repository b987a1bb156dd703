-- What a query names, by table: today every column that it names is one of its own table. Each withholds, unless gaps are left.
-- Assumes nothing.
use Prim.Native.Nat.{ℕ}
use mathlib.Core.Bool.{Bool, cond, false, true}
use mathlib.Core.List.{List, [], ◌++◌, ◌∷◌, map, map-id}
use mathlib.Core.Option.{Option, none, some}
use mathlib.Core.Path.{◌∙◌, ◌≡◌, ap, refl, sym}
use Rattle.condition.specs.Cond.{comparisons_in}
use Rattle.condition.specs.CondForm.{Compared, Ref}
use Rattle.document.specs.Lookup.{column_of, columns_of, table_of}
use Rattle.document.specs.Policy.{Policy}
use Rattle.lists.proofs.ListLaws.{map_append, map_map}
use Rattle.lists.specs.Lists.{found, keep, there}
use Rattle.query.specs.Query.{columns_in, source_of, sources}
use Rattle.query.specs.QueryForm.{QueryForm, has_gaps, named_refs, named_words, plain_ref, selected_refs, selected_words, tested_refs, withholding_refs}
use Rattle.text.proofs.NameLaws.{same_name_refl}
use Rattle.text.specs.Words.{Word, is_called}

-- ---- the words

-- the words that name columns are those of the selected columns, and then the condition's
pub named_words_are : (q : QueryForm) → named_words q ≡ selected_words q ++ map (λ x. x.of) (comparisons_in q.condition)
unfolding named_words named_refs selected_refs tested_refs
named_words_are q =
    map_append (λ (r : Ref). r.column) (selected_refs q) (tested_refs q)
    ∙ ap (λ ws. ws ++ map (λ (r : Ref). r.column) (tested_refs q)) (map_map (λ (r : Ref). r.column) (plain_ref q) (selected_words q) ∙ map-id (selected_words q))
    ∙ ap (λ ws. selected_words q ++ ws) (map_map (λ (r : Ref). r.column) (λ (x : Compared). plain_ref q x.of) (comparisons_in q.condition))

-- the words that name columns which withhold
unfoldable pub withholding_words : QueryForm → List Word
withholding_words q = map (λ r. r.column) (withholding_refs q)

-- they are the condition's where gaps are left, and else all that name columns
pub withholding_words_are : (q : QueryForm) → withholding_words q ≡ cond (has_gaps q.wanted) (map (λ x. x.of) (comparisons_in q.condition)) (named_words q)
unfolding withholding_words withholding_refs named_words tested_refs
withholding_words_are q = go (has_gaps q.wanted)
  where
    go : (b : Bool) → map (λ (r : Ref). r.column) (cond b (tested_refs q) (named_refs q)) ≡ cond b (map (λ x. x.of) (comparisons_in q.condition)) (named_words q)
    go true = map_map (λ (r : Ref). r.column) (λ (x : Compared). plain_ref q x.of) (comparisons_in q.condition)
    go false = refl

-- each stands for a column of the query's table
refs_plain : (q : QueryForm) → named_refs q ≡ map (plain_ref q) (named_words q)
unfolding named_refs selected_refs tested_refs
refs_plain q = sym (
    ap (map (plain_ref q)) (named_words_are q)
    ∙ map_append (plain_ref q) (selected_words q) (map (λ x. x.of) (comparisons_in q.condition))
    ∙ ap (λ rs. selected_refs q ++ rs) (map_map (plain_ref q) (λ (x : Compared). x.of) (comparisons_in q.condition)))

withholding_plain : (q : QueryForm) → withholding_refs q ≡ map (plain_ref q) (withholding_words q)
unfolding withholding_refs tested_refs
withholding_plain q = go (has_gaps q.wanted) ∙ ap (map (plain_ref q)) (sym (withholding_words_are q))
  where
    go : (b : Bool) → cond b (tested_refs q) (named_refs q) ≡ map (plain_ref q) (cond b (map (λ x. x.of) (comparisons_in q.condition)) (named_words q))
    go true = sym (map_map (plain_ref q) (λ (x : Compared). x.of) (comparisons_in q.condition))
    go false = refs_plain q

-- ---- the table

-- what is found behind one that may be missing
found_behind : (o : Option ℕ) (xs ys : List (Option ℕ)) → found xs ≡ found ys → found (o ∷ xs) ≡ found (o ∷ ys)
unfolding found
found_behind none xs ys e = e
found_behind (some n) xs ys e = ap (λ l. n ∷ l) e

module _ (d : Policy) (q : QueryForm) where
  columns_plain : (ws : List Word) → columns_in d q.table (map (plain_ref q) ws) ≡ found (map (column_of (columns_of d q.table)) ws)
  unfolding columns_in keep is_called
  columns_plain [] = refl
  columns_plain (w ∷ ws) = rw (same_name_refl q.table.bytes) (found_behind (column_of (columns_of d q.table) w) _ _ (columns_plain ws))

  -- the columns named in the query's table are those that its words name there
  pub named_columns : (source_of d q q.table).named ≡ found (map (column_of (columns_of d q.table)) (named_words q))
  unfolding source_of
  named_columns = ap (columns_in d q.table) (refs_plain q) ∙ columns_plain (named_words q)

  -- and so are those that withhold
  pub withholding_columns : (source_of d q q.table).withholding ≡ found (map (column_of (columns_of d q.table)) (withholding_words q))
  unfolding source_of
  withholding_columns = ap (columns_in d q.table) (withholding_plain q) ∙ columns_plain (withholding_words q)

  -- the query reads no table, where the document does not know its own
  pub sources_unknown : there (table_of d q.table) ≡ false → sources d q ≡ []
  unfolding sources keep
  sources_unknown h = ap (λ b. map (source_of d q) (cond b (q.table ∷ []) [])) h

  -- and else that one
  pub sources_known : there (table_of d q.table) ≡ true → sources d q ≡ source_of d q q.table ∷ []
  unfolding sources keep
  sources_known h = ap (λ b. map (source_of d q) (cond b (q.table ∷ []) [])) h
