-- Tables by the places of their columns: one column or more is a list that is not empty, and a table has the scheme that its
-- keyword says. Assumes nothing.
use Prim.Native.Nat.{◌≤◌, ℕ}
use borrow.Author.Tests.{eq-eqb, eqb-false, eqb-true}
use lib.Dec.{eqb}
use lib.ListN.{get_or, length}
use mathlib.Core.Bool.{Bool, false, true}
use mathlib.Core.List.{List, ◌∷◌, map}
use mathlib.Core.Option.{Option, none, some}
use mathlib.Core.Path.{◌∙◌, ◌≡◌, ap, refl, sym}
use native.Mathlib.Omega.{arith}
use Rattle.form.proofs.FormForward.{forward_column, forward_labelled_column}
use Rattle.form.proofs.PartLaws.{space_before}
use Rattle.form.proofs.WalkLaws.{columns_walk, labelled_columns_walk}
use Rattle.form.specs.BodyPlaces.{ColumnsWithin, ReadsColumns, columns_to, table_to, under_scheme}
use Rattle.form.specs.Form.{ColumnForm, Form, by_column, table}
use Rattle.form.specs.FormReader.{column, labelled_column, labelled_columns, plain_columns, schemes}
use Rattle.form.specs.TableWords.{column_words, scheme_words}
use Rattle.form.specs.Walks.{column_forms_at}
use Rattle.text.proofs.EndLaws.{end_none, end_read}
use Rattle.text.proofs.Forward.{Forward, forward_many}
use Rattle.text.proofs.Lefts.{first_drop}
use Rattle.text.proofs.ManyLaws.{many_step}
use Rattle.text.proofs.Spaces.{next_not}
use Rattle.text.specs.Brackets.{keyword, many, next}
use Rattle.text.specs.CodeEnds.{word_end}
use Rattle.text.specs.Reader.{Left, Reader, ◌>>=◌, and_then, from, give, if_next}
use Rattle.text.specs.Words.{Word}
use Rattle.std.specs.Prelude as prelude
use Rattle.std.specs.Prelude.{None, Some}
use Rattle.form.specs.declared.lines.Scheme as coded
use Rattle.form.specs.declared.lines.Scheme.TheVariants as scheme

-- ---- one item or more

module _ {A B : Type 0} (R : Reader A) (f : List A → B) (s : List ℕ) (at : ℕ) where
  -- one item and then a list, as what is made of a list that is not empty
  abbrev one_or_more : Option (B × Left)
  one_or_more = and_then (next R (from s at)) (λ x. many R >>= (λ xs. give (f (x ∷ xs))))

  -- where a space stands they are what a list is
  one_or_more_lem : Forward R → get_or s at 0 ≡ 32 → one_or_more ≡ and_then (many R (from s at)) (λ xs. give (f xs))
  unfolding if_next
  one_or_more_lem p h = rw (many_step (λ a. 0) R p (from s at), first_drop s at, eq-eqb _ _ h) (first (next R (from s at)))
    where
      rest : (x : A) (o : Option (List A × Left)) → and_then o (λ xs. give (f (x ∷ xs))) ≡ and_then (and_then o (λ xs. give (x ∷ xs))) (λ xs. give (f xs))
      rest x none = refl
      rest x (some r) = refl

      first : (o : Option (A × Left)) → and_then o (λ x. many R >>= (λ xs. give (f (x ∷ xs)))) ≡ and_then (and_then o (λ x. many R >>= (λ xs. give (x ∷ xs)))) (λ xs. give (f xs))
      first none = refl
      first (some r) = rest r.0 (many R r.1)

  -- elsewhere there is none
  one_not : (get_or s at 0 ≡ 32 → ⊥) → one_or_more ≡ none
  one_not h = rw (next_not R s at h)

-- ---- columns, one at least

module _ (s : List ℕ) (at e : ℕ) (k : coded.Scheme) (l : ℕ) {A : Type 0} (R : Reader A) (p : Forward R) (make : Word → List A → Form) where
  -- the code's answer for a table of columns that R reads: the keyword is followed by one column or more, and what is made of
  -- the columns that stand there is the table
  columns_read : (r : prelude.Option ℕ) {q : prelude.Option (coded.Scheme × ℕ × ℕ × ℕ)} → q ≡ under_scheme s k l e r → r ≡ word_end (many R (from s e))
      → ((t : Word) (xs : List A) (g : ℕ) → many R (from s e) ≡ some (xs, from s g) → make t xs ≡ table t (scheme_words s k l e) (column_words s k e))
      → l ≤ length s
      → ((t : Word) → keyword (schemes t) (from s at) ≡ one_or_more R (make t) s e)
      → ReadsColumns s at q
  unfolding under_scheme columns_to table_to ColumnsWithin
  columns_read r {q} h c made w called = go (eqb (get_or s e 0) 32) refl r refl
    where
      go : (b : Bool) → eqb (get_or s e 0) 32 ≡ b → (x : prelude.Option ℕ) → r ≡ x → ReadsColumns s at q
      go true z (Some g) y =
          let b : get_or s e 0 ≡ 32 = eqb-true _ _ z in
          let x = end_read (many R) s e (forward_many R p) g (sym c ∙ y) in
          let answered : q ≡ Some (k, l, e, g) = h ∙ rw (z, y) in
          rw answered (record { is = λ t. called t ∙ one_or_more_lem R (make t) s e p b ∙ rw (x.1, made t x.0 g x.1); within = (w, omega (arith, space_before s e b)) })
      go true z None y =
          let wrong : q ≡ None = h ∙ rw (z, y) in
          rw wrong (record { is = λ t. called t ∙ one_or_more_lem R (make t) s e p (eqb-true _ _ z) ∙ rw (end_none (many R) s e (sym c ∙ y)); within = tt })
      go false z x y =
          let wrong : q ≡ None = h ∙ rw z in
          rw wrong (record { is = λ t. called t ∙ one_not R (make t) s e (eqb-false _ _ z); within = tt })

module _ (s : List ℕ) (at e : ℕ) where
  -- plain columns, for every scheme but by column
  pub plain_table : (k : coded.Scheme) (l : ℕ) (r : prelude.Option ℕ) {q : prelude.Option (coded.Scheme × ℕ × ℕ × ℕ)} → q ≡ under_scheme s k l e r → r ≡ word_end (many column (from s e))
      → column_words s k e ≡ column_forms_at s e → l ≤ length s
      → ((t : Word) → keyword (schemes t) (from s at) ≡ plain_columns t (scheme_words s k l e) (from s e))
      → ReadsColumns s at q
  unfolding plain_columns
  plain_table k l r h c cs w called =
      columns_read s at e k l column forward_column (λ t xs. table t (scheme_words s k l e) xs) r h c
      (λ t xs g is. ap (λ (ys : List ColumnForm). table t (scheme_words s k l e) ys) (columns_walk s e xs (from s g) is ∙ sym cs)) w called

  -- columns with a label at each
  pub labelled_table : (r : prelude.Option ℕ) {q : prelude.Option (coded.Scheme × ℕ × ℕ × ℕ)} → q ≡ under_scheme s scheme.ByColumn 0 e r → r ≡ word_end (many labelled_column (from s e))
      → ((t : Word) → keyword (schemes t) (from s at) ≡ labelled_columns t (from s e))
      → ReadsColumns s at q
  unfolding labelled_columns scheme_words column_words
  labelled_table r h c called =
      columns_read s at e scheme.ByColumn 0 labelled_column forward_labelled_column (λ t xs. table t (by_column (map (λ x. x.1) xs)) (map (λ x. x.0) xs)) r h c
      (λ t xs g is. let w = labelled_columns_walk s e xs (from s g) is in rw (w.0, w.1)) (omega arith) called
