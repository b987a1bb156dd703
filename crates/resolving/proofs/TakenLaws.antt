-- What two lists hold at one number, by their first n. Assumes nothing.
use Prim.Native.Nat.{◌<◌, suc, zero, ℕ}
use lib.ListN.{get_or, get_elem?, length, take}
use mathlib.Core.List.{List, [], ◌∷◌, map}
use mathlib.Core.Option
use mathlib.Core.Option.{some-injective, some}
use mathlib.Core.Path.{◌∙◌, ◌≡◌, ap, refl, sym}
use native.Mathlib.Omega.{arith}
use Rattle.lists.proofs.ListLaws.{get_elem?_map, map_map}

-- what the first n have at a number
pub taken_at : (xs : List ℕ) (n i : ℕ) → i < n → i < length xs → get_elem? (take n xs) i ≡ some (get_or xs i 0)
taken_at [] n i l b = absurd (omega (arith, b))
taken_at (x ∷ xs) zero i l b = absurd (omega (arith, l))
taken_at (x ∷ xs) (suc n) zero l b = refl
taken_at (x ∷ xs) (suc n) (suc i) l b = taken_at xs n i (omega (arith, l)) (omega (arith, b))

-- what the first n are, each of them is
pub mapped_at : {A : Type 0} (f : A → ℕ) (g : ℕ → A) (xs ys : List ℕ) (n i : ℕ) → i < n → i < length xs → i < length ys → take n xs ≡ map f (map g (take n ys)) → get_or xs i 0 ≡ f (g (get_or ys i 0))
mapped_at f g xs ys n i l a b e =
    some-injective _ _
    (sym (taken_at xs n i l a)
    ∙ ap (λ zs. get_elem? zs i) (e ∙ map_map f g (take n ys))
    ∙ get_elem?_map (λ y. f (g y)) (take n ys) i
    ∙ ap (Option.map (λ y. f (g y))) (taken_at ys n i l b))
