-- Ranges in the rows of a table, as the code looks for them. Assumes nothing.
use Prim.Native.Nat.{◌<◌, ◌≤◌, suc, zero, ℕ}
use borrow.Author.Tests.{eq-eqb, eqb-false, eqb-true, ne_eqb}
use lib.Dec.{eqb}
use lib.ListN.{get_or, length, take}
use mathlib.Core.Bool.{Bool, ◌&&◌, ◌||◌, cond, false, not, true}
use mathlib.Core.List.{List, [], ◌++◌, ◌∷◌, map}
use mathlib.Core.Option.{none, some}
use mathlib.Core.Path.{◌∙◌, ◌≡◌, ap, refl, sym}
use native.Mathlib.Omega.{arith}
use Rattle.answer.specs.Ranged.{has_range, ranged_at}
use Rattle.answer.specs.Seen.{rows_in}
use Rattle.document.specs.Lookup.{column_of, columns_at}
use Rattle.document.specs.Policy.{Doc, Row}
use Rattle.judging.proofs.ValueLaws.{value_in_lem}
use Rattle.lists.proofs.Tests.{or_left, or_right}
use Rattle.lists.specs.Lists.{any_of, keep, or_zero}
use Rattle.query.specs.Naming.{words_at}
use Rattle.relations.specs.Rows.{Rows, row_in, value_count_in, value_in}
use Rattle.resolving.proofs.TakenLaws.{mapped_at}
use Rattle.ranging.specs.Promises.{plain_at}
use Rattle.text.proofs.FirstOffending.{first_missing_lem, none_missing}
use Rattle.text.specs.Amounts.{is_range}
use Rattle.text.specs.Offending.{missing}
use Rattle.text.specs.Words.{Word, word_of, written_at}
use Rattle.workspace.specs.Tabulated.{tabulated}

-- ---- one row

module _ (text ws : List ℕ) (r t c : ℕ) where
  -- the row lies in table t and has a range in column c
  abbrev pub ranged_here : Bool
  ranged_here = eqb (row_in text ws r).table t && ranged_at c (row_in text ws r)

  pub row_elsewhere : (x : ℕ) → x ≡ get_or ws r 0 → (x ≡ t → ⊥) → false ≡ ranged_here
  unfolding row_in
  row_elsewhere x e n = ap (λ (b : Bool). b && ranged_at c (row_in text ws r)) (sym (ne_eqb _ _ (λ z. n (e ∙ z))))

  pub row_here_lem : (x : ℕ) → x ≡ get_or ws r 0 → x ≡ t → (width p : ℕ) → width ≡ value_count_in ws r → written_at text p ≡ get_or (tabulated (value_in text ws r) width) c [] → (b : Bool) → b ≡ is_range (written_at text p) → b ≡ ranged_here
  unfolding row_in ranged_at
  row_here_lem x e z width p w is b h =
      h ∙ ap is_range (is ∙ value_in_lem text ws r c width w)
      ∙ ap (λ (a : Bool). a && ranged_at c (row_in text ws r)) (sym (eq-eqb _ _ (sym e ∙ z)))

-- ---- the rows of a table

module _ {A : Type 0} (k p : A → Bool) where
  -- a test of what is kept
  any_kept : (xs : List A) → any_of p (keep k xs) ≡ any_of (λ x. k x && p x) xs
  unfolding any_of keep
  any_kept [] = refl
  any_kept (x ∷ xs) = go (k x) (any_kept xs)
    where
      go : (b : Bool) → any_of p (keep k xs) ≡ any_of (λ x. k x && p x) xs → any_of p (cond b (x ∷ keep k xs) (keep k xs)) ≡ ((b && p x) || any_of (λ x. k x && p x) xs)
      go true e = unfold any_of in ap (λ (b : Bool). p x || b) e
      go false e = e

module _ {A : Type 0} (p : A → Bool) where
  any_last : (xs : List A) (x : A) → any_of p (xs ++ (x ∷ [])) ≡ (any_of p xs || p x)
  unfolding any_of
  any_last [] x = go (p x)
    where
      go : (b : Bool) → (b || false) ≡ b
      go true = refl
      go false = refl
  any_last (y ∷ ys) x = go (p y) (any_last ys x)
    where
      go : (b : Bool) → any_of p (ys ++ (x ∷ [])) ≡ (any_of p ys || p x) → (b || any_of p (ys ++ (x ∷ []))) ≡ ((b || any_of p ys) || p x)
      go true e = refl
      go false e = e

  any_one : (f : ℕ → A) (n i : ℕ) → i < n → p (f i) ≡ true → any_of p (tabulated f n) ≡ true
  unfolding tabulated
  any_one f zero i l h = absurd (omega (arith, l))
  any_one f (suc n) i l h = any_last (tabulated f n) (f n) ∙ go (λ less. any_one f n i less h) (eqb i n) refl
    where
      go : (i < n → any_of p (tabulated f n) ≡ true) → (b : Bool) → eqb i n ≡ b → (any_of p (tabulated f n) || p (f n)) ≡ true
      go rest true e = or_right (any_of p (tabulated f n)) _ (ap (λ (j : ℕ). p (f j)) (sym (eqb-true i n e)) ∙ h)
      go rest false e = let d : i ≡ n → ⊥ = eqb-false i n e in or_left (any_of p (tabulated f n)) _ (rest (omega (arith, l, d)))

  any_none : (f : ℕ → A) (n : ℕ) → ((i : ℕ) → i < n → p (f i) ≡ false) → any_of p (tabulated f n) ≡ false
  unfolding tabulated any_of
  any_none f zero h = refl
  any_none f (suc n) h = any_last (tabulated f n) (f n) ∙ (λ i. any_none f n (λ j l. h j (omega (arith, l))) i || h n (omega arith) i)

module _ (text ws : List ℕ) (count t c : ℕ) (rs : List Row) (rows : Rows text ws count rs) where
  in_rows : any_of (ranged_at c) (rows_in t rs) ≡ any_of (λ (x : Row). eqb x.table t && ranged_at c x) (tabulated (row_in text ws) count)
  unfolding rows_in
  in_rows = any_kept (λ (x : Row). eqb x.table t) (ranged_at c) rs ∙ ap (any_of (λ (x : Row). eqb x.table t && ranged_at c x)) (sym rows.are)

  pub column_one : (r : ℕ) → r < count → ranged_here text ws r t c ≡ true → true ≡ any_of (ranged_at c) (rows_in t rs)
  column_one r l h = sym (in_rows ∙ any_one (λ (x : Row). eqb x.table t && ranged_at c x) (row_in text ws) count r l h)

  pub column_none : ((r : ℕ) → r < count → ranged_here text ws r t c ≡ false) → false ≡ any_of (ranged_at c) (rows_in t rs)
  column_none h = sym (in_rows ∙ any_none (λ (x : Row). eqb x.table t && ranged_at c x) (row_in text ws) count h)

-- ---- the first of the named columns

pub record NamedColumns (text ws : List ℕ) (count t : ℕ) (places : List ℕ) (n : ℕ) (columns : List ℕ) (d : Doc) (s : List ℕ) : Type 0 where
  pub rows : Rows text ws count d.rows
  pub long_places : n ≤ length places
  pub long_columns : n ≤ length columns
  pub are : take n columns ≡ map (λ w. or_zero (column_of (columns_at d.policy t) w)) (words_at s n places)

module _ {text ws : List ℕ} {count t : ℕ} {places : List ℕ} {n : ℕ} {columns : List ℕ} {d : Doc} {s : List ℕ} (g : NamedColumns text ws count t places n columns d s) where
  -- what the code finds at a column's number
  pub plain_found : (i : ℕ) → i < n → (b : Bool) → ((rs : List Row) → Rows text ws count rs → b ≡ any_of (ranged_at (get_or columns i 0)) (rows_in t rs)) → plain_at d t (word_of s (get_or places i 0)) ≡ not b
  unfolding has_range
  plain_found i l b is =
      ap not (sym (is d.rows g.rows
      ∙ ap (λ c. any_of (ranged_at c) (rows_in t d.rows))
      (mapped_at (λ (w : Word). or_zero (column_of (columns_at d.policy t) w)) (word_of s) columns places n i l (omega (arith, l, g.long_columns)) (omega (arith, l, g.long_places)) g.are)))

  pub first_ranged : (i : ℕ) → i < n → ((j : ℕ) → j < i → plain_at d t (word_of s (get_or places j 0)) ≡ true) → plain_at d t (word_of s (get_or places i 0)) ≡ false → some (word_of s (get_or places i 0)) ≡ missing (plain_at d t) (words_at s n places)
  first_ranged i l h e = sym (first_missing_lem (plain_at d t) (word_of s) places n i g.long_places l h e)

  pub none_ranged : ((j : ℕ) → j < n → plain_at d t (word_of s (get_or places j 0)) ≡ true) → none ≡ missing (plain_at d t) (words_at s n places)
  none_ranged h = sym (none_missing (plain_at d t) (word_of s) places n g.long_places h)
