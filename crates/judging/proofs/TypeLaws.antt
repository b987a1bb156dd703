-- The types of the comparisons that were read: the first that is wrong. Assumes nothing.
use Prim.Native.Nat.{◌<◌, ◌≤◌, suc, zero, ℕ}
use borrow.Author.Tests.{eq-eqb, ne_eqb}
use lib.Dec.{eqb}
use lib.ListN.{get_or, length, take}
use lib.Seq.{take-suc}
use mathlib.Core.Bool.{Bool, false, true}
use mathlib.Core.List.{List, [], ◌++◌, ◌∷◌, map}
use mathlib.Core.Logic.{⊎_elim}
use mathlib.Core.Option.{Option, none-ne-some, some-ne-none, none, some}
use mathlib.Core.Path.{◌∙◌, ◌≡◌, ap, refl, sym}
use native.Mathlib.Nat.{eq-or-lt_of_le}
use native.Mathlib.Omega.{arith}
use Rattle.condition.specs.Answers.{compared_at, compared_by, compared_joined, naming_by, operator_by, operator_of, value_at}
use Rattle.condition.specs.CondForm.{Naming, mistyped, plainly, tabled}
use Rattle.condition.specs.Kinds.{has_kind, takes}
use Rattle.judging.specs.Reading.{missing_by, wrong_by}
use Rattle.condition.specs.Ranges.{Mode}
use Rattle.judging.specs.Tests.{TestOf}
use Rattle.judging.specs.declared.tests.Comparisons.{Comparisons}
use Rattle.judging.specs.declared.tests.TestRead.{TestRead}
use Rattle.lists.proofs.ListLaws.{map_append}
use Rattle.text.proofs.OffendingLaws.{leftmost_fail, leftmost_head, leftmost_nil, leftmost_on, leftmost_only, leftmost_tail, unless_false, unless_none, unless_true}
use Rattle.query.specs.Query.{is_missing_date}
use Rattle.text.specs.Offending.{leftmost, offending_if, unless}
use Rattle.text.specs.Words.{Word, word_at, written_at, written_of}
use Rattle.workspace.specs.Cells.{kind_of_cell}
use Rattle.workspace.specs.Tabulated.{tabulated}

-- ---- the first word of a list by its numbers

-- one more behind a list that has none is the first
leftmost_behind : (xs : List (Option Word)) (y : Option Word) → leftmost xs ≡ none → leftmost (xs ++ (y ∷ [])) ≡ y
unfolding leftmost
leftmost_behind [] y h = leftmost_only y
leftmost_behind (none ∷ xs) y h = leftmost_behind xs y h
leftmost_behind (some w ∷ xs) y h = absurd (some-ne-none _ h)

-- the first stays the first
leftmost_stays : (xs ys : List (Option Word)) (w : Word) → leftmost xs ≡ some w → leftmost (xs ++ ys) ≡ some w
unfolding leftmost
leftmost_stays [] ys w h = absurd (none-ne-some _ h)
leftmost_stays (none ∷ xs) ys w h = leftmost_stays xs ys w h
leftmost_stays (some v ∷ xs) ys w h = h

-- where two lists have none, each has none
leftmost_parts : (xs ys : List (Option Word)) → leftmost (xs ++ ys) ≡ none → (leftmost xs ≡ none) × (leftmost ys ≡ none)
unfolding leftmost
leftmost_parts [] ys h = (refl, h)
leftmost_parts (none ∷ xs) ys h = leftmost_parts xs ys h
leftmost_parts (some w ∷ xs) ys h = absurd (some-ne-none _ h)

module _ (f : ℕ → Option Word) where
  pub none_at : (k j : ℕ) → j < k → leftmost (tabulated f k) ≡ none → f j ≡ none
  unfolding tabulated
  none_at zero j l h = absurd (omega (arith, l))
  none_at (suc k) j l h =
      let p = leftmost_parts (tabulated f k) (f k ∷ []) h in
      ⊎_elim (λ s. ap f s ∙ leftmost_head (f k) [] p.1) (λ m. none_at k j m p.0) (eq-or-lt_of_le (le j k l))
    where
      le : (j k : ℕ) → j < suc k → j ≤ k
      le j k l = omega (arith, l)

  pub none_below : (k : ℕ) → ((i : ℕ) → i < k → f i ≡ none) → leftmost (tabulated f k) ≡ none
  unfolding tabulated
  none_below zero h = leftmost_nil
  none_below (suc k) h = leftmost_behind (tabulated f k) (f k) (none_below k (λ i l. h i (omega (arith, l)))) ∙ h k (omega arith)

  pub first_below : (k j : ℕ) (w : Word) → j < k → ((i : ℕ) → i < j → f i ≡ none) → f j ≡ some w → leftmost (tabulated f k) ≡ some w
  unfolding tabulated
  first_below zero j w l h e = absurd (omega (arith, l))
  first_below (suc k) j w l h e = ⊎_elim (λ s. here s) (λ m. leftmost_stays (tabulated f k) (f k ∷ []) w (first_below k j w m h e)) (eq-or-lt_of_le le)
    where
      le : j ≤ k
      le = omega (arith, l)

      here : j ≡ k → leftmost (tabulated f k ++ (f k ∷ [])) ≡ some w
      here s = leftmost_behind (tabulated f k) (f k) (none_below k (λ i m. h i (omega (arith, m, s)))) ∙ ap f (sym s) ∙ e

-- the first m of a list, by their numbers
pub tabulated_taken : {A : Type 0} (h : ℕ → A) (m : ℕ) (xs : List ℕ) → m ≤ length xs → tabulated (λ j. h (get_or xs j 0)) m ≡ map h (take m xs)
unfolding tabulated
tabulated_taken h zero xs l = refl
tabulated_taken h (suc m) xs l =
    ap (λ ys. ys ++ (h (get_or xs m 0) ∷ [])) (tabulated_taken h m xs (omega (arith, l)))
    ∙ sym (map_append h (take m xs) (get_or xs m 0 ∷ []))
    ∙ ap (map h) (sym (take-suc xs m 0 (omega (arith, l))))

-- ---- one comparison

-- the parts of a comparison by the place of its operator, in whichever way it names its column
module _ (s : List ℕ) (op : ℕ) where
  pub compared_op : (way : Naming) → (compared_by way s op).op ≡ operator_of (word_at s op)
  unfolding compared_at compared_joined
  compared_op plainly = refl
  compared_op tabled = refl

  compared_operator : (way : Naming) → (compared_by way s op).operator ≡ written_of s op
  unfolding compared_at compared_joined
  compared_operator plainly = refl
  compared_operator tabled = refl

  pub compared_value : (way : Naming) → (compared_by way s op).value ≡ written_of s (value_at way s op)
  unfolding compared_at compared_joined
  compared_value plainly = refl
  compared_value tabled = refl

module _ (ts : List ℕ) (g : Comparisons) (s : List ℕ) (op c y n : ℕ) (mode : Mode) (x : TestRead) (h : TestOf ts g s op c y n mode x) where
  abbrev way : Naming
  way = naming_by g.joined

  pub value_read : written_of s x.place ≡ (compared_by way s op).value
  value_read = ap (written_of s) h.place ∙ sym (compared_value s op way)

  -- what was read of a comparison tells what is wrong with its types
  pub wrong_read : wrong_by s x ≡ mistyped (kind_of_cell x.kind) (compared_by way s op)
  unfolding wrong_by mistyped
  wrong_read = λ i.
      leftmost (unless (takes (kind_of_cell x.kind) ((h.operator ∙ sym (compared_op s op way)) i)) ((ap (written_of s) h.sign ∙ sym (compared_operator s op way)) i)
      ∷ unless ((h.fits ∙ ap (λ (w : Word). has_kind (kind_of_cell x.kind) w.bytes) value_read) i) (value_read i)
      ∷ [])

  -- and whether its value is a date that does not exist
  pub missing_told : missing_by s x ≡ offending_if (is_missing_date (compared_by way s op).value.bytes) (compared_by way s op).value
  unfolding missing_by
  missing_told = ap (λ (w : Word). offending_if (is_missing_date w.bytes) w) value_read

-- where nothing is wrong, the value is of the type
pub wrong_none : (s : List ℕ) (x : TestRead) → wrong_by s x ≡ none → eqb x.fits 1 ≡ true
unfolding wrong_by
wrong_none s x h = unless_none _ _ (leftmost_head _ _ (leftmost_tail _ _ h))

-- what the code finds of a comparison, where b says whether the operator takes the type
module _ (s : List ℕ) (x : TestRead) (b : Bool) (is : b ≡ takes (kind_of_cell x.kind) (operator_by x.operator)) where
  pub wrong_operator : b ≡ false → some (written_of s x.sign) ≡ wrong_by s x
  unfolding wrong_by
  wrong_operator h = sym (leftmost_fail _ (written_of s x.sign) (unless (eqb x.fits 1) (written_of s x.place) ∷ []) (sym is ∙ h))

  module _ (h : b ≡ true) where
    by_value : wrong_by s x ≡ unless (eqb x.fits 1) (written_of s x.place)
    unfolding wrong_by
    by_value = leftmost_on _ (written_of s x.sign) (unless (eqb x.fits 1) (written_of s x.place)) (sym is ∙ h)

    pub wrong_nothing : x.fits ≡ 1 → none ≡ wrong_by s x
    wrong_nothing e = sym (by_value ∙ unless_true (eqb x.fits 1) (written_of s x.place) (eq-eqb x.fits 1 e))

    pub wrong_value : (x.fits ≡ 1 → ⊥) → some (written_of s x.place) ≡ wrong_by s x
    wrong_value e = sym (by_value ∙ unless_false (eqb x.fits 1) (written_of s x.place) (ne_eqb x.fits 1 e))

-- the first date that does not exist, by the test b
module _ (s : List ℕ) (x : TestRead) (b : Bool) (is : b ≡ is_missing_date (written_at s x.place)) where
  pub missing_here : b ≡ true → missing_by s x ≡ some (written_of s x.place)
  unfolding missing_by offending_if
  missing_here h = ap (λ t. offending_if t (written_of s x.place)) (sym is ∙ h)

  pub missing_not : b ≡ false → missing_by s x ≡ none
  unfolding missing_by offending_if
  missing_not h = ap (λ t. offending_if t (written_of s x.place)) (sym is ∙ h)
