-- The table that is stored is what its line adds. Assumes nothing.
use Prim.Native.Nat.{◌+◌, ◌<◌, ◌≤◌, ℕ}
use borrow.Author.Tests.{leb-false, ltb-false}
use lib.Dec.{leb}
use lib.ListN.{length}
use mathlib.Core.Bool.{false, true}
use mathlib.Core.List.{List, [], ◌++◌, ◌∷◌, map}
use mathlib.Core.Path.{◌≡◌, ap, refl, subst, sym}
use Rattle.document.specs.Bounds.{over_bound}
use Rattle.document.specs.Lookup.{label_of}
use Rattle.document.specs.Meaning.{add, column_meant, define}
use Rattle.document.specs.Policy.{Doc, Noted, Table}
use Rattle.form.specs.Form.{ColumnForm, by_table, map_scheme}
use Rattle.form.specs.Walks.{column_forms_at, column_labels_at, labelled_columns_at}
use Rattle.relations.proofs.TableLaws.{tables_counted}
use Rattle.relations.specs.Notes.{Notes}
use Rattle.relations.specs.Tables.{TableAdded, Tables, scheme_by}
use Rattle.form.specs.TableWords.{column_words, labels_columns, scheme_words, table_line}
use Rattle.form.specs.declared.lines.Scheme as coded
use Rattle.form.specs.declared.lines.Scheme.TheVariants as code
use Rattle.lists.proofs.Tests.{neither_left, neither_right, true_not_false}
use Rattle.lists.specs.Lists.{or_zero}
use Rattle.stepping.proofs.PassLaws.{Passed, passed}
use Rattle.stepping.proofs.PlaceLaws.{word_placed}
use Rattle.stepping.specs.Stored.{ColumnsFilled, LineAt, Passes}
use Rattle.text.specs.Words.{Word, word_of}

-- what the line gives, by whether labels stand at the columns
module _ (f : Word → ℕ) (line : List ℕ) (l cs : ℕ) where
  pub labelled_columns_lem : (s : coded.Scheme) → labels_columns s ≡ true → column_words line s cs ≡ labelled_columns_at line cs
  unfolding column_words
  labelled_columns_lem code.Unlabelled h = true_not_false h refl
  labelled_columns_lem code.ByTable h = true_not_false h refl
  labelled_columns_lem code.ByColumn h = refl
  labelled_columns_lem code.ByRow h = true_not_false h refl
  labelled_columns_lem code.ByCell h = true_not_false h refl
  labelled_columns_lem code.Nested h = true_not_false h refl

  pub plain_columns_lem : (s : coded.Scheme) → labels_columns s ≡ false → column_words line s cs ≡ column_forms_at line cs
  unfolding column_words
  plain_columns_lem code.Unlabelled h = refl
  plain_columns_lem code.ByTable h = refl
  plain_columns_lem code.ByColumn h = true_not_false refl h
  plain_columns_lem code.ByRow h = refl
  plain_columns_lem code.ByCell h = refl
  plain_columns_lem code.Nested h = refl

  pub labelled_scheme : (s : coded.Scheme) (label : ℕ) → labels_columns s ≡ true → scheme_by s label (map f (column_labels_at line cs)) ≡ map_scheme f (scheme_words line s l cs)
  unfolding scheme_by map_scheme scheme_words
  labelled_scheme code.Unlabelled label h = true_not_false h refl
  labelled_scheme code.ByTable label h = true_not_false h refl
  labelled_scheme code.ByColumn label h = refl
  labelled_scheme code.ByRow label h = true_not_false h refl
  labelled_scheme code.ByCell label h = true_not_false h refl
  labelled_scheme code.Nested label h = true_not_false h refl

  pub plain_scheme : (s : coded.Scheme) (label : ℕ) (ls : List ℕ) → label ≡ f (word_of line l) → labels_columns s ≡ false → scheme_by s label ls ≡ map_scheme f (scheme_words line s l cs)
  unfolding scheme_by map_scheme scheme_words
  plain_scheme code.Unlabelled label ls e h = refl
  plain_scheme code.ByTable label ls e h = ap by_table e
  plain_scheme code.ByColumn label ls e h = true_not_false refl h
  plain_scheme code.ByRow label ls e h = refl
  plain_scheme code.ByCell label ls e h = refl
  plain_scheme code.Nested label ls e h = refl

module _ {text : List ℕ} {at : ℕ} {line : List ℕ} (p : LineAt text at line) (d : Doc) (t pos : ℕ) (h : t ≤ length line) (e : at + t ≤ length text → pos ≡ at + t) (s : coded.Scheme) (l cs : ℕ) where
  pub table_stored : {before mid after : List ℕ} {k width : ℕ} (label : ℕ) (fs : List ColumnForm) (ls : List ℕ) → Tables text before k d.policy.tables → Passes d line (table_line line t s l cs)
      → column_words line s cs ≡ fs → scheme_by s label ls ≡ map_scheme (λ w. or_zero (label_of d.policy w)) (scheme_words line s l cs)
      → (k < 8 → length fs ≤ 16 → ColumnsFilled text before mid k width (map column_meant fs) ls)
      → TableAdded mid after k pos s label width
      → Tables text after (k + 1) (add d (table_line line t s l cs)).policy.tables × ((ns : List Noted) → Notes before k ns → Notes after (k + 1) ns)
  unfolding add define over_bound
  table_stored {before} {mid} {after} {k} {width} label fs ls N ok is scheme filled more =
      let q : Passed d (table_line line t s l cs) = passed d line (table_line line t s l cs) ok in
      let small : k < 8 = subst (λ n. n < 8) (tables_counted text before k d.policy.tables N) (leb-false 8 _ (neither_left _ _ q.room)) in
      let few : length fs ≤ 16 = subst (λ xs. length xs ≤ 16) is (ltb-false 16 (length (column_words line s cs)) (neither_right (leb 8 (length d.policy.tables)) _ q.room)) in
      let done : ColumnsFilled text before mid k width (map column_meant fs) ls = filled small few in (
        subst (λ (x : Table). Tables text after (k + 1) (d.policy.tables ++ (x ∷ [])))
            (λ j. record { name = word_placed p t pos h e j; scheme = scheme j; columns = map column_meant (sym is j) })
            (more.grown text d.policy.tables (map column_meant fs) ls (done.kept d.policy.tables N) small done.filling),
        λ ns n. more.noted ns small (done.noted ns n),
      )
