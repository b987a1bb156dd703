-- The columns of a table that is being stored: what the loops over them keep, and the table that is stored in the end. Assumes nothing.
use Prim.Native.Nat.{◌+◌, ◌<◌, ◌≤◌, ℕ}
use lib.ListN.{get_or, length, length-append, length-map}
use mathlib.Core.List.{List, [], ◌++◌, ◌∷◌, append_assoc, append-nil, map}
use mathlib.Core.Path.{◌∙◌, ◌≡◌, ap, refl, subst, sym}
use native.Mathlib.Omega.{arith}
use Rattle.condition.specs.Kinds.{Kind}
use Rattle.document.specs.Lookup.{label_of}
use Rattle.document.specs.Meaning.{column_meant}
use Rattle.document.specs.Policy.{Column, Noted, Policy, Table}
use Rattle.form.proofs.WalkSteps.{column_labels_more, columns_more, labelled_columns_more}
use Rattle.form.specs.Walks.{column_at, column_forms_at, column_label_at, column_labels_at, first_in, column_kind_at, labelled_columns_at, pair_end_at, second_in, third_in, triple_end_at}
use Rattle.workspace.proofs.TabulatedLaws.{length_tabulated}
use Rattle.relations.proofs.TableLaws.{table_empty}
use Rattle.relations.specs.Notes.{Notes}
use Rattle.relations.specs.Tables.{ColumnStored, Filling, Tables, column_in}
use Rattle.lists.specs.Lists.{or_zero}
use Rattle.stepping.proofs.PlaceLaws.{word_placed}
use Rattle.stepping.specs.Stored.{ColumnsFilled, LineAt}
use Rattle.text.proofs.WalkingLaws.{past_within}
use Rattle.text.specs.Walking.{next_word, past, word_end_at}
use Rattle.text.specs.Words.{word_at, word_of}

-- of all the columns and labels some were stored, and the others are left
pub record Columned (text before after : List ℕ) (k c : ℕ) (all left : List Column) (labels behind : List ℕ) : Type 0 where
  pub kept : (ts : List Table) → Tables text before k ts → Tables text after k ts
  pub noted : (ns : List Noted) → Notes before k ns → Notes after k ns
  pub passed : List Column
  pub marked : List ℕ
  pub filling : Filling text after k c passed marked
  pub columns : all ≡ passed ++ left
  pub labelled : labels ≡ marked ++ behind

pub columned_none : (text ws : List ℕ) (k : ℕ) (all : List Column) (labels : List ℕ) → Columned text ws ws k 0 all all labels labels
columned_none text ws k all labels = record {
  kept = λ ts h. h;
  noted = λ ns h. h;
  passed = [];
  marked = [];
  filling = table_empty text ws k;
  columns = refl;
  labelled = refl;
}

pub columned_more : {text before ws after : List ℕ} {k c pos label : ℕ} {kind : Kind} {all left : List Column} {labels behind : List ℕ} (x : Column) (y : ℕ)
    → Columned text before ws k c all (x ∷ left) labels (y ∷ behind) → k < 8 → length all ≤ 16 → ColumnStored ws after k c pos kind label
    → word_at text pos ≡ x.name → kind ≡ x.kind → label ≡ y → Columned text before after k (c + 1) all left labels behind
columned_more {text} {before} {ws} {after} {k} {c} {pos} {label} {kind} {all} {left} {labels} {behind} x y g small few s n t u =
    let long : length g.passed ≡ c = sym (ap length g.filling.columns) ∙ length_tabulated (column_in text ws k) c in
    let inside : c < 16 = omega (arith, ap length g.columns, length-append g.passed (x ∷ left), long, few) in
    record {
      kept = λ ts h. s.kept text k ts (omega arith) (g.kept ts h);
      noted = λ ns h. s.noted k ns (g.noted ns h);
      passed = g.passed ++ (x ∷ []);
      marked = g.marked ++ (y ∷ []);
      filling = subst (λ (z : Column × ℕ). Filling text after k (c + 1) (g.passed ++ (z.0 ∷ [])) (g.marked ++ (z.1 ∷ [])))
          (λ j. (record { name = n j; kind = t j }, u j)) (s.grown text g.passed g.marked small inside g.filling);
      columns = g.columns ∙ sym (append_assoc g.passed (x ∷ []) left);
      labelled = g.labelled ∙ sym (append_assoc g.marked (y ∷ []) behind);
    }

pub columned_all : {text before after : List ℕ} {k c : ℕ} {all left : List Column} {labels behind : List ℕ} → Columned text before after k c all left labels behind → left ≡ [] → behind ≡ [] → ColumnsFilled text before after k c all labels
columned_all {text} {before} {after} {k} {c} g e f = record {
  kept = g.kept;
  noted = g.noted;
  filling = subst (λ (z : List Column × List ℕ). Filling text after k c z.0 z.1)
      (λ j. (sym (g.columns ∙ ap (λ x. g.passed ++ x) e ∙ append-nil g.passed) j, sym (g.labelled ∙ ap (λ x. g.marked ++ x) f ∙ append-nil g.marked) j)) g.filling;
}

-- ---- where the words of a bracket stand, as the code finds them

module _ (s : List ℕ) (p w q e : ℕ) (first : w ≡ past 40 s p) (second : q ≡ next_word s w) where
  pub second_is : q ≡ second_in s p
  unfolding second_in first_in
  second_is = second ∙ ap (next_word s) first

  pub pair_ends : e ≡ past 41 s (q + length (word_at s q)) → e ≡ pair_end_at s p
  unfolding pair_end_at word_end_at
  pair_ends h = h ∙ ap (λ n. past 41 s (n + length (word_at s n))) second_is

  pub third_is : (m : ℕ) → m ≡ next_word s q → m ≡ third_in s p
  unfolding third_in
  third_is m h = h ∙ ap (next_word s) second_is

  pub triple_ends : (m : ℕ) → m ≡ next_word s q → e ≡ past 41 s (m + length (word_at s m)) → e ≡ triple_end_at s p
  unfolding triple_end_at word_end_at
  triple_ends m g h = h ∙ ap (λ n. past 41 s (n + length (word_at s n))) (third_is m g)

-- ---- one turn of the loops

module _ {text : List ℕ} {at : ℕ} {line : List ℕ} (l : LineAt text at line) (j w q e pos : ℕ) (type : Kind) (space : get_or line j 0 ≡ 32) (inside : j < length line)
    (first : w ≡ past 40 line (j + 1)) (second : q ≡ next_word line w) (placed : at + w ≤ length text → pos ≡ at + w) (kind : type ≡ column_kind_at line q) where
  within : w ≤ length line
  within = subst (λ n. n ≤ length line) (sym first) (past_within 40 line (j + 1) (omega arith))

  name_is : word_at text pos ≡ (column_meant (column_at line (j + 1))).name
  unfolding column_meant column_at first_in
  name_is = word_placed l w pos within placed ∙ ap (word_at line) first

  kind_is : type ≡ (column_meant (column_at line (j + 1))).kind
  unfolding column_meant column_at
  kind_is = kind ∙ ap (column_kind_at line) (second_is line (j + 1) w q e first second)

  pub plain_turn : {before ws after : List ℕ} {k c : ℕ} (cs : ℕ) → e ≡ past 41 line (q + length (word_at line q)) → ColumnStored ws after k c pos type 0 → k < 8 → length (column_forms_at line cs) ≤ 16
      → Columned text before ws k c (map column_meant (column_forms_at line cs)) (map column_meant (column_forms_at line j)) (map (λ x. 0) (column_forms_at line cs)) (map (λ x. 0) (column_forms_at line j))
      → Columned text before after k (c + 1) (map column_meant (column_forms_at line cs)) (map column_meant (column_forms_at line e)) (map (λ x. 0) (column_forms_at line cs)) (map (λ x. 0) (column_forms_at line e))
  plain_turn {before} {ws} {after} {k} {c} cs ends s small few g =
      columned_more (column_meant (column_at line (j + 1))) 0
      (subst (λ xs. Columned text before ws k c (map column_meant (column_forms_at line cs)) (map column_meant xs) (map (λ x. 0) (column_forms_at line cs)) (map (λ x. 0) xs))
      (columns_more line j space ∙ ap (λ n. column_at line (j + 1) ∷ column_forms_at line n) (sym (pair_ends line (j + 1) w q e first second ends))) g)
      small (subst (λ n. n ≤ 16) (sym (length-map (column_forms_at line cs) column_meant)) few) s name_is kind_is refl

  pub labelled_turn : {before ws after : List ℕ} {k c : ℕ} (d : Policy) (cs m label : ℕ) → m ≡ next_word line q → e ≡ past 41 line (m + length (word_at line m)) → label ≡ or_zero (label_of d (word_of line m))
      → ColumnStored ws after k c pos type label → k < 8 → length (labelled_columns_at line cs) ≤ 16
      → Columned text before ws k c (map column_meant (labelled_columns_at line cs)) (map column_meant (labelled_columns_at line j)) (map (λ v. or_zero (label_of d v)) (column_labels_at line cs)) (map (λ v. or_zero (label_of d v)) (column_labels_at line j))
      → Columned text before after k (c + 1) (map column_meant (labelled_columns_at line cs)) (map column_meant (labelled_columns_at line e)) (map (λ v. or_zero (label_of d v)) (column_labels_at line cs)) (map (λ v. or_zero (label_of d v)) (column_labels_at line e))
  unfolding column_label_at
  labelled_turn {before} {ws} {after} {k} {c} d cs m label third ends is s small few g =
      let t : e ≡ triple_end_at line (j + 1) = triple_ends line (j + 1) w q e first second m third ends in
      columned_more (column_meant (column_at line (j + 1))) (or_zero (label_of d (column_label_at line (j + 1))))
      (subst (λ ys. Columned text before ws k c (map column_meant (labelled_columns_at line cs)) (column_meant (column_at line (j + 1)) ∷ map column_meant (labelled_columns_at line e)) (map (λ v. or_zero (label_of d v)) (column_labels_at line cs)) (map (λ v. or_zero (label_of d v)) ys))
      (column_labels_more line j space ∙ ap (λ n. column_label_at line (j + 1) ∷ column_labels_at line n) (sym t))
      (subst (λ xs. Columned text before ws k c (map column_meant (labelled_columns_at line cs)) (map column_meant xs) (map (λ v. or_zero (label_of d v)) (column_labels_at line cs)) (map (λ v. or_zero (label_of d v)) (column_labels_at line j)))
      (labelled_columns_more line j space ∙ ap (λ n. column_at line (j + 1) ∷ labelled_columns_at line n) (sym t)) g))
      small (subst (λ n. n ≤ 16) (sym (length-map (labelled_columns_at line cs) column_meant)) few) s name_is kind_is
      (is ∙ ap (λ n. or_zero (label_of d (word_of line n))) (third_is line (j + 1) w q e first second m third))
