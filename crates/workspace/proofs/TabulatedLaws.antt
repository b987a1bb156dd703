-- Lists by what stands at each number: one more, the same below k, and looking up. Assumes nothing.
use Prim.Native.Nat.{◌+◌, ◌<◌, ◌≤◌, suc, zero, ℕ}
use lib.ListN.{get_or, get_elem?, length, length-append}
use mathlib.Core.Bool.{Bool, cond, false, true}
use mathlib.Core.List.{List, [], ◌++◌, ◌∷◌, map}
use mathlib.Core.Logic.{⊎_elim}
use mathlib.Core.Option
use mathlib.Core.Option.{none-ne-some, some-injective, none, some}
use mathlib.Core.Path.{◌∙◌, ◌≡◌, ap, refl, subst, sym}
use native.Mathlib.Nat.{add-suc, eq-or-lt_of_le, not-suc-le-zero}
use native.Mathlib.Numerals.{add-one}
use native.Mathlib.Omega.{arith}
use Rattle.workspace.specs.Tabulated.{tabulated}
use Rattle.lists.proofs.ListLaws.{find_index_from_append, get_elem?_inside_append, map_append}
use Rattle.lists.specs.Lists.{find_index, find_index_from}

module _ {A : Type 0} where
  -- what stands behind a list
  get_elem?_behind : (xs : List A) (y : A) (i : ℕ) → i ≡ length xs → get_elem? (xs ++ (y ∷ [])) i ≡ some y
  get_elem?_behind [] y zero e = refl
  get_elem?_behind [] y (suc i) e = absurd (omega (arith, e))
  get_elem?_behind (x ∷ xs) y zero e = absurd (omega (arith, e))
  get_elem?_behind (x ∷ xs) y (suc i) e = get_elem?_behind xs y i (omega (arith, e))

  -- where something stands is inside the list
  get_elem?_inside : (xs : List A) (i : ℕ) (a : A) → get_elem? xs i ≡ some a → i < length xs
  get_elem?_inside [] i a e = absurd (none-ne-some _ e)
  get_elem?_inside (x ∷ xs) zero a e = omega arith
  get_elem?_inside (x ∷ xs) (suc i) a e = omega (arith, get_elem?_inside xs i a e)

  -- what stands there, either way
  get_or_there : (xs : List A) (i : ℕ) (d y : A) → get_elem? xs i ≡ some y → get_or xs i d ≡ y
  get_or_there [] i d y e = absurd (none-ne-some _ e)
  get_or_there (x ∷ xs) zero d y e = some-injective x y e
  get_or_there (x ∷ xs) (suc i) d y e = get_or_there xs i d y e

  -- where nothing is found in a list, nothing is found in it and one more that fails; one more that passes is found behind it
  missed_behind : (t : A → Bool) (xs : List A) (y : A) (n : ℕ) → find_index_from n t xs ≡ none → t y ≡ false → find_index_from n t (xs ++ (y ∷ [])) ≡ none
  unfolding find_index_from
  missed_behind t [] y n e p = rw p
  missed_behind t (x ∷ xs) y n e p = go (t x) refl (missed_behind t xs y (suc n))
    where
      go : (b : Bool) → t x ≡ b → (find_index_from (suc n) t xs ≡ none → t y ≡ false → find_index_from (suc n) t (xs ++ (y ∷ [])) ≡ none) → find_index_from n t (x ∷ xs ++ (y ∷ [])) ≡ none
      go true q rest = absurd (none-ne-some _ (sym (rw (q, find_index_from) at e)))
      go false q rest = rw (q, find_index_from) (rest (rw (q, find_index_from) at e) p)

  found_behind : (t : A → Bool) (xs : List A) (y : A) (n : ℕ) → find_index_from n t xs ≡ none → t y ≡ true → find_index_from n t (xs ++ (y ∷ [])) ≡ some (n + length xs)
  unfolding find_index_from
  found_behind t [] y n e p = rw p (ap some (omega arith))
  found_behind t (x ∷ xs) y n e p = go (t x) refl (found_behind t xs y (suc n))
    where
      go : (b : Bool) → t x ≡ b → (find_index_from (suc n) t xs ≡ none → t y ≡ true → find_index_from (suc n) t (xs ++ (y ∷ [])) ≡ some (suc n + length xs)) → find_index_from n t (x ∷ xs ++ (y ∷ [])) ≡ some (n + suc (length xs))
      go true q rest = absurd (none-ne-some _ (sym (rw (q, find_index_from) at e)))
      go false q rest = rw (q, find_index_from) (rest (rw (q, find_index_from) at e) p ∙ ap some (omega arith))

  -- where the count starts at a number more, so do the numbers found
  pub find_index_from_shift : (t : A → Bool) (m n : ℕ) (xs : List A) → find_index_from (m + n) t xs ≡ Option.map (λ j. m + j) (find_index_from n t xs)
  unfolding find_index_from
  find_index_from_shift t m n [] = refl
  find_index_from_shift t m n (x ∷ xs) = go (t x) (ap (λ i. find_index_from i t xs) (sym (add-suc m n)) ∙ find_index_from_shift t m (suc n) xs)
    where
      go : (b : Bool) → find_index_from (suc (m + n)) t xs ≡ Option.map (λ j. m + j) (find_index_from (suc n) t xs)
          → cond b (some (m + n)) (find_index_from (suc (m + n)) t xs) ≡ Option.map (λ j. m + j) (cond b (some n) (find_index_from (suc n) t xs))
      go true e = refl
      go false e = e

  -- one more
  pub tabulated_more : (f : ℕ → A) (k : ℕ) → tabulated f (k + 1) ≡ tabulated f k ++ (f k ∷ [])
  unfolding tabulated
  tabulated_more f k = rw (add-one k)

  -- what agrees below k gives the same list
  pub tabulated_same : (f g : ℕ → A) (k : ℕ) → ((i : ℕ) → i < k → f i ≡ g i) → tabulated f k ≡ tabulated g k
  unfolding tabulated
  tabulated_same f g zero h = refl
  tabulated_same f g (suc k) h = λ j. tabulated_same f g k (λ i l. h i (omega (arith, l))) j ++ (h k (omega arith) j ∷ [])

  -- one more behind what stays
  pub tabulated_pushed : (f g : ℕ → A) (k : ℕ) (xs : List A) (y : A) → tabulated f k ≡ xs → ((i : ℕ) → i < k → g i ≡ f i) → g k ≡ y → tabulated g (k + 1) ≡ xs ++ (y ∷ [])
  tabulated_pushed f g k xs y are kept new = tabulated_more g k ∙ (λ j. (tabulated_same g f k kept ∙ are) j ++ (new j ∷ []))

  pub length_tabulated : (f : ℕ → A) (k : ℕ) → length (tabulated f k) ≡ k
  unfolding tabulated
  length_tabulated f zero = refl
  length_tabulated f (suc k) = length-append (tabulated f k) (f k ∷ []) ∙ omega (arith, length_tabulated f k)

  -- what stands at a number below k
  pub tabulated_at : (f : ℕ → A) (k i : ℕ) → i < k → get_elem? (tabulated f k) i ≡ some (f i)
  unfolding tabulated
  tabulated_at f zero i l = absurd (not-suc-le-zero l)
  tabulated_at f (suc k) i l = ⊎_elim (λ e. last e) (λ m. old m (tabulated_at f k i m)) (eq-or-lt_of_le le)
    where
      le : i ≤ k
      le = omega (arith, l)

      last : i ≡ k → get_elem? (tabulated f k ++ (f k ∷ [])) i ≡ some (f i)
      last e = get_elem?_behind (tabulated f k) (f k) i (e ∙ sym (length_tabulated f k)) ∙ ap (λ n. some (f n)) (sym e)

      old : i < k → get_elem? (tabulated f k) i ≡ some (f i) → get_elem? (tabulated f k ++ (f k ∷ [])) i ≡ some (f i)
      old m e = get_elem?_inside_append (tabulated f k) (f k ∷ []) i (omega (arith, m, length_tabulated f k)) ∙ e

  -- the same, with what stands past the end
  pub tabulated_get_or : (f : ℕ → A) (k i : ℕ) (d : A) → i < k → get_or (tabulated f k) i d ≡ f i
  tabulated_get_or f k i d l = get_or_there (tabulated f k) i d (f i) (tabulated_at f k i l)

  -- what stands at a number is what f gives for it, and the number is below k
  pub tabulated_there : (f : ℕ → A) (k i : ℕ) (a : A) → get_elem? (tabulated f k) i ≡ some a → (i < k) × (a ≡ f i)
  tabulated_there f k i a e =
      let l : i < k = subst (λ n. i < n) (length_tabulated f k) (get_elem?_inside (tabulated f k) i a e) in
      (l, some-injective a (f i) (sym e ∙ tabulated_at f k i l))

  -- a test that fails for every number below k finds nothing
  pub tabulated_none : (t : A → Bool) (f : ℕ → A) (k : ℕ) → ((i : ℕ) → i < k → t (f i) ≡ false) → find_index t (tabulated f k) ≡ none
  unfolding tabulated find_index find_index_from
  tabulated_none t f zero h = refl
  tabulated_none t f (suc k) h = missed_behind t (tabulated f k) (f k) 0 (tabulated_none t f k (λ i l. h i (omega (arith, l)))) (h k (omega arith))

  -- the first number that passes it is found
  pub tabulated_found : (t : A → Bool) (f : ℕ → A) (k j : ℕ) → j < k → ((i : ℕ) → i < j → t (f i) ≡ false) → t (f j) ≡ true → find_index t (tabulated f k) ≡ some j
  unfolding tabulated find_index find_index_from
  tabulated_found t f zero j l h p = absurd (not-suc-le-zero l)
  tabulated_found t f (suc k) j l h p = ⊎_elim (λ e. last e) (λ m. old (tabulated_found t f k j m h p)) (eq-or-lt_of_le le)
    where
      le : j ≤ k
      le = omega (arith, l)

      last : j ≡ k → find_index_from 0 t (tabulated f k ++ (f k ∷ [])) ≡ some j
      last e =
          found_behind t (tabulated f k) (f k) 0 (unfold find_index in tabulated_none t f k (λ i l. h i (omega (arith, l, e)))) (ap (λ n. t (f n)) (sym e) ∙ p)
          ∙ ap some (omega (arith, length_tabulated f k, e))

      old : find_index_from 0 t (tabulated f k) ≡ some j → find_index_from 0 t (tabulated f k ++ (f k ∷ [])) ≡ some j
      old e = find_index_from_append 0 t (tabulated f k) (f k ∷ []) j e

-- each element replaced
pub tabulated_map : {A B : Type 0} (g : A → B) (f : ℕ → A) (k : ℕ) → map g (tabulated f k) ≡ tabulated (λ i. g (f i)) k
unfolding tabulated
tabulated_map g f zero = refl
tabulated_map g f (suc k) = map_append g (tabulated f k) (f k ∷ []) ∙ ap (λ l. l ++ (g (f k) ∷ [])) (tabulated_map g f k)

find_from_map : {A B : Type 0} (t : B → Bool) (g : A → B) (n : ℕ) (xs : List A) → find_index_from n t (map g xs) ≡ find_index_from n (λ x. t (g x)) xs
unfolding find_index_from
find_from_map t g n [] = refl
find_from_map t g n (x ∷ xs) = ap (cond (t (g x)) (some n)) (find_from_map t g (suc n) xs)

-- a test of what each element becomes
pub find_index_map : {A B : Type 0} (t : B → Bool) (g : A → B) (xs : List A) → find_index t (map g xs) ≡ find_index (λ x. t (g x)) xs
unfolding find_index
find_index_map t g xs = find_from_map t g 0 xs
