-- A line step by step: each refusal in its order, and what is left then. Assumes nothing.
use Prim.Native.Nat.{◌<◌, ◌^◌, ◌≤◌, ℕ}
use borrow.Author.Tests.{leb-false, lt-ltb}
use lib.Dec.{eqb, leb}
use lib.ListN.{get_elem?, length, length-map}
use mathlib.Core.Bool.{Bool, cond, false, true}
use mathlib.Core.List.{List, [], ◌∷◌, map}
use mathlib.Core.Option.{Option, bind, none, some}
use mathlib.Core.Path.{◌∙◌, ◌≡◌, ap, refl, sym}
use native.Mathlib.Omega.{arith}
use Rattle.answer.specs.Seen.{rows_in}
use Rattle.answer.specs.Why.{Reason, cell_reason, explain, row_numbered, unknown_why}
use Rattle.document.specs.Lookup.{column_of, columns_at, columns_of, labelling_at, purpose_of, table_of}
use Rattle.document.specs.NoteFaults.{is_nested}
use Rattle.document.specs.Policy.{Doc, Node, Row, tree_of}
use Rattle.lists.specs.Lists.{keep, or_zero, there}
use Rattle.principals.specs.Nodes.{Nodes, node_in}
use Rattle.purpose.specs.Compliance.{in_tree}
use Rattle.purpose.specs.Members.{limit}
use Rattle.query.specs.WhyForm.{WhyForm}
use Rattle.relations.proofs.LabelLaws.{element_none}
use Rattle.text.specs.CodeEnds.{limited}
use Rattle.text.specs.Offending.{leftmost, offending_if, unless}
use Rattle.text.specs.Refusal.{Result, ◌>>=◌, ◌>>◌, accepted, need, pointing, query, refuse_at, refused}
use Rattle.std.specs.Prelude.{None, Some}
use Rattle.workspace.proofs.TabulatedLaws.{length_tabulated}

-- a purpose below their number is in the tree
pub purpose_inside : (text ps : List ℕ) (k : ℕ) (ns : List Node) → Nodes limit text ps k ns → (p : ℕ) → p < k → in_tree (tree_of ns) p ≡ true
unfolding tree_of
purpose_inside text ps k ns h p l =
    let many : length ns ≡ k = ap length (sym h.are) ∙ length_tabulated (node_in limit text ps) k in
    lt-ltb p (length (map (λ (n : Node). n.parent) ns)) (omega (arith, l, many, length-map ns (λ (n : Node). n.parent)))

module _ (d : Doc) (w : WhyForm) where
  -- ---- 23

  pub purpose_unknown : purpose_of d.policy w.purpose ≡ none → explain d w ≡ refused (pointing 23 query w.purpose)
  unfolding explain unknown_why there unless leftmost refuse_at ◌>>◌
  purpose_unknown h = rw h

  module _ {p : ℕ} (is_purpose : purpose_of d.policy w.purpose ≡ some p) where
    pub table_unknown : table_of d.policy w.table ≡ none → explain d w ≡ refused (pointing 23 query w.table)
    unfolding explain unknown_why there unless leftmost refuse_at ◌>>◌
    table_unknown h = rw (is_purpose, h)

    module _ {t : ℕ} (is_table : table_of d.policy w.table ≡ some t) where
      pub column_unknown : column_of (columns_at d.policy t) w.column ≡ none → explain d w ≡ refused (pointing 23 query w.column)
      unfolding explain unknown_why columns_of there or_zero unless leftmost refuse_at ◌>>◌
      column_unknown h = rw (is_purpose, is_table, h)

      module _ {c : ℕ} (is_column : column_of (columns_at d.policy t) w.column ≡ some c) where
        -- ---- 24 and 26

        -- what is left for the row that was found
        abbrev behind_row : Row → Result Reason
        behind_row r = refuse_at 26 query (offending_if (is_nested (labelling_at d.policy t)) w.table) >> accepted (cell_reason d.policy p (labelling_at d.policy t) r.labels c)

        all_known_lem : explain d w ≡ (need (row_numbered d t w.row) (pointing 24 query w.row) >>= behind_row)
        unfolding explain unknown_why columns_of there or_zero unless leftmost refuse_at ◌>>◌
        all_known_lem = rw (is_purpose, is_table, is_column)

        pub row_unknown : row_numbered d t w.row ≡ none → explain d w ≡ refused (pointing 24 query w.row)
        unfolding need ◌>>=◌
        row_unknown h = all_known_lem ∙ ap (λ (o : Option Row). need o (pointing 24 query w.row) >>= behind_row) h

        module _ (r : Row) (is_row : row_numbered d t w.row ≡ some r) where
          found_row : explain d w ≡ behind_row r
          unfolding need ◌>>=◌
          found_row = all_known_lem ∙ ap (λ (o : Option Row). need o (pointing 24 query w.row) >>= behind_row) is_row

          pub nest_refused : is_nested (labelling_at d.policy t) ≡ true → explain d w ≡ refused (pointing 26 query w.table)
          unfolding offending_if refuse_at ◌>>◌
          nest_refused h = found_row ∙ rw h

          pub cell_explained : is_nested (labelling_at d.policy t) ≡ false → explain d w ≡ accepted (cell_reason d.policy p (labelling_at d.policy t) r.labels c)
          unfolding offending_if refuse_at ◌>>◌
          cell_explained h = found_row ∙ rw h

-- ---- the number of a row

-- rows that are kept are no more than there are
kept_few : {A : Type 0} (f : A → Bool) (xs : List A) → length (keep f xs) ≤ length xs
unfolding keep
kept_few f [] = omega arith
kept_few f (x ∷ xs) = go (f x) (kept_few f xs)
  where
    go : (b : Bool) → length (keep f xs) ≤ length xs → length (cond b (x ∷ keep f xs) (keep f xs)) ≤ length (x ∷ xs)
    go true h = omega (arith, h)
    go false h = omega (arith, h)

-- a number that the code does not take counts no row
pub no_row : (t : ℕ) (rs : List Row) → length rs ≤ 1024 → (o : Option ℕ) → limited o ≡ None → bind o (get_elem? (rows_in t rs)) ≡ none
unfolding bind rows_in
no_row t rs few none h = refl
no_row t rs few (some m) h = go (leb m (2 ^ 63)) refl h
  where
    go : (b : Bool) → leb m (2 ^ 63) ≡ b → cond b (Some m) None ≡ None → get_elem? (keep (λ (r : Row). eqb r.table t) rs) m ≡ none
    go true e k = let z : ◌≡◌ {A = ℕ} 0 1 = cc in absurd (omega arith)
    go false e k = element_none (keep (λ (r : Row). eqb r.table t) rs) m (omega (arith, leb-false m (2 ^ 63) e, few, kept_few (λ (r : Row). eqb r.table t) rs))
