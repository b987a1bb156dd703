-- Which cells may differ, said of the query's own table by its words: the cell is closed to the purpose, or its row lies in another
-- table, or its column is not named, or its row is withheld. Assumes nothing.
use Prim.Native.Nat.{ℕ}
use borrow.Author.Tests.{eqb-true}
use lib.Dec.{eqb}
use mathlib.Core.Bool.{Bool, ◌&&◌, ◌||◌, false, not, true}
use mathlib.Core.List.{List, map}
use mathlib.Core.Option.{Option, none, some}
use mathlib.Core.Path.{◌∙◌, ◌≡◌, ap, refl, sym}
use Rattle.answer.specs.Alike.{free, sees}
use Rattle.document.specs.Lookup.{column_of, columns_of, purpose_of, labelling_at, table_of}
use Rattle.document.specs.Open.{cell_open, open_to, row_withheld}
use Rattle.document.specs.Policy.{Policy, Row}
use Rattle.lists.specs.Lists.{any_of, found, holds_of, member, or_zero, there}
use Rattle.query.proofs.Sources.{named_columns, sources_known, sources_unknown, withholding_columns, withholding_words}
use Rattle.query.specs.Query.{source_of, sources}
use Rattle.query.specs.QueryForm.{QueryForm, named_words}

-- a cell is not seen exactly when it is closed, or elsewhere, or not named, or in a withheld row
not_seen : (here out named opened : Bool) → not ((here && (not out && (named && opened))) || false) ≡ (not opened || not here || not named || out)
not_seen true true true true = refl
not_seen true true true false = refl
not_seen true true false true = refl
not_seen true true false false = refl
not_seen true false true true = refl
not_seen true false true false = refl
not_seen true false false true = refl
not_seen true false false false = refl
not_seen false true true true = refl
not_seen false true true false = refl
not_seen false true false true = refl
not_seen false true false false = refl
not_seen false false true true = refl
not_seen false false true false = refl
not_seen false false false true = refl
not_seen false false false false = refl

-- elsewhere, the other three do not matter
elsewhere : (out named opened out' opened' : Bool) → not ((false && (not out && (named && opened))) || false) ≡ (not opened' || not false || not named || out')
elsewhere out named opened out' opened' = not_seen false out' named opened'

module _ (d : Policy) (q : QueryForm) (r : Row) (c : ℕ) where
  -- the columns of the queried table that the query names
  abbrev columns : List ℕ
  columns = found (map (column_of (columns_of d q.table)) (named_words q))

  -- those whose closed cells withhold a row
  abbrev withholding : List ℕ
  withholding = found (map (column_of (columns_of d q.table)) (withholding_words q))

  -- cell c is open to the purpose p, in a table of this number
  abbrev opened : ℕ → ℕ → Bool
  opened p t = cell_open (open_to d p) (labelling_at d t) r.labels c

  -- the row is withheld from the purpose p, in a table of this number
  abbrev out : ℕ → ℕ → Bool
  out p t = row_withheld (open_to d p) (labelling_at d t) withholding r.labels

  -- what is seen through the query's table
  through : (p : ℕ) → sees d p r c (source_of d q q.table) ≡ (eqb r.table (or_zero (table_of d q.table)) && (not (out p (or_zero (table_of d q.table))) && (member c columns && opened p (or_zero (table_of d q.table)))))
  unfolding sees source_of
  through p =
      let t : ℕ = or_zero (table_of d q.table) in
      λ i. eqb r.table t && (not (row_withheld (open_to d p) (labelling_at d t) (withholding_columns d q i) r.labels) && (member c (named_columns d q i) && opened p t))

  -- A value may differ exactly where its cell is closed, or elsewhere, or not named, or in a withheld row.
  pub free_cells : free d (some q) r c
      ≡ (not (holds_of (λ p. opened p r.table) (purpose_of d q.purpose)) || not (holds_of (eqb r.table) (table_of d q.table)) || not (member c columns) || holds_of (λ p. out p r.table) (purpose_of d q.purpose))
  unfolding free
  free_cells = by_purpose (purpose_of d q.purpose)
    where
      in_table : (p n : ℕ) (b : Bool) → eqb r.table n ≡ b
          → not ((b && (not (out p n) && (member c columns && opened p n))) || false) ≡ (not (opened p r.table) || not b || not (member c columns) || out p r.table)
      in_table p n true e =
          not_seen true (out p n) (member c columns) (opened p n)
          ∙ ap (λ t. not (opened p t) || not true || not (member c columns) || out p t) (sym (eqb-true r.table n e))
      in_table p n false e = elsewhere (out p n) (member c columns) (opened p n) (out p r.table) (opened p r.table)

      by_table : (p : ℕ) (o : Option ℕ) → table_of d q.table ≡ o
          → not (any_of (sees d p r c) (sources d q)) ≡ (not (opened p r.table) || not (holds_of (eqb r.table) o) || not (member c columns) || out p r.table)
      by_table p none e = unfold any_of holds_of there in
          ap (λ xs. not (any_of (sees d p r c) xs)) (sources_unknown d q (ap there e))
          ∙ not_seen false (out p r.table) (member c columns) (opened p r.table)
      by_table p (some n) e = unfold any_of holds_of there or_zero in
          ap (λ xs. not (any_of (sees d p r c) xs)) (sources_known d q (ap there e))
          ∙ ap (λ b. not (b || false)) (through p)
          ∙ ap (λ o. not ((eqb r.table (or_zero o) && (not (out p (or_zero o)) && (member c columns && opened p (or_zero o)))) || false)) e
          ∙ in_table p n (eqb r.table n) refl

      by_purpose : (o : Option ℕ)
          → not (holds_of (λ p. any_of (sees d p r c) (sources d q)) o)
          ≡ (not (holds_of (λ p. opened p r.table) o) || not (holds_of (eqb r.table) (table_of d q.table)) || not (member c columns) || holds_of (λ p. out p r.table) o)
      by_purpose none = unfold holds_of in refl
      by_purpose (some p) = unfold holds_of in by_table p (table_of d q.table) refl
