-- The first offending word of a list, by what stands at each number. Assumes nothing.
use Prim.Native.Nat.{◌<◌, suc, zero, ℕ}
use lib.ListN.{get_elem?, length}
use mathlib.Core.List.{List, [], ◌∷◌, map}
use mathlib.Core.Option.{Option, none-ne-some, some-injective, none, some}
use mathlib.Core.Path.{◌∙◌, ◌≡◌, ap, refl, subst, sym}
use native.Mathlib.Omega.{arith}
use Rattle.text.proofs.OffendingLaws.{leftmost_first, leftmost_head, leftmost_nil, leftmost_skip, leftmost_tail}
use Rattle.text.specs.Offending.{leftmost}
use Rattle.text.specs.Words.{Word}

module _ {A : Type 0} where
  -- something stands at every number below the length
  there_at : (xs : List A) (i : ℕ) → i < length xs → (x : A) × (get_elem? xs i ≡ some x)
  there_at [] i l = absurd (omega (arith, l))
  there_at (x ∷ xs) zero l = (x, refl)
  there_at (x ∷ xs) (suc i) l = there_at xs i (omega (arith, l))

  -- and at no other
  inside : (xs : List A) (i : ℕ) (x : A) → get_elem? xs i ≡ some x → i < length xs
  inside [] i x e = absurd (none-ne-some _ e)
  inside (y ∷ xs) zero x e = omega arith
  inside (y ∷ xs) (suc i) x e = omega (arith, inside xs i x e)

module _ {A : Type 0} (f : A → Option Word) where
  pub first_at : (xs : List A) (i : ℕ) (x : A) (w : Word) → get_elem? xs i ≡ some x → ((m : ℕ) (y : A) → m < i → get_elem? xs m ≡ some y → f y ≡ none) → f x ≡ some w → leftmost (map f xs) ≡ some w
  first_at [] i x w e h o = absurd (none-ne-some _ e)
  first_at (y ∷ xs) zero x w e h o = leftmost_first (f y) (map f xs) w (ap f (some-injective _ _ e) ∙ o)
  first_at (y ∷ xs) (suc i) x w e h o =
      leftmost_skip (f y) (map f xs) (h 0 y (omega arith) refl)
      ∙ first_at xs i x w e (λ m z l g. h (suc m) z (omega (arith, l)) g) o

  pub none_at_all : (xs : List A) → ((m : ℕ) (y : A) → get_elem? xs m ≡ some y → f y ≡ none) → leftmost (map f xs) ≡ none
  none_at_all [] h = leftmost_nil
  none_at_all (y ∷ xs) h = leftmost_skip (f y) (map f xs) (h 0 y refl) ∙ none_at_all xs (λ m z g. h (suc m) z g)

  -- where none offends, each does not
  pub none_each : (xs : List A) → leftmost (map f xs) ≡ none → (i : ℕ) (x : A) → get_elem? xs i ≡ some x → f x ≡ none
  none_each [] h i x e = absurd (none-ne-some _ e)
  none_each (y ∷ xs) h zero x e = ap f (sym (some-injective _ _ e)) ∙ leftmost_head (f y) _ h
  none_each (y ∷ xs) h (suc i) x e = none_each xs (leftmost_tail (f y) _ h) i x e

  -- the same as a loop over n elements finds it
  module _ (xs : List A) (n : ℕ) (number : length xs ≡ n) where
    pub first_there : (i : ℕ) (w : Word) → i < n → ((m : ℕ) → m < i → (y : A) → get_elem? xs m ≡ some y → f y ≡ none) → ((x : A) → get_elem? xs i ≡ some x → f x ≡ some w) → leftmost (map f xs) ≡ some w
    first_there i w l h o =
        let t = there_at xs i (subst (λ (z : ℕ). i < z) (sym number) l) in
        first_at xs i t.0 w t.1 (λ m y b e. h m b y e) (o t.0 t.1)

    pub none_there : ((m : ℕ) → m < n → (y : A) → get_elem? xs m ≡ some y → f y ≡ none) → leftmost (map f xs) ≡ none
    none_there h = none_at_all xs (λ m y e. h m (subst (λ (z : ℕ). m < z) number (inside xs m y e)) y e)
