-- The row that a number counts among those of a table, as a loop over all rows finds it. Assumes nothing.
use Prim.Native.Nat.{◌+◌, ◌-◌, ◌≤◌, suc, zero, ℕ}
use lib.ListN.{drop, drop_of_length-le, get_elem?, length}
use mathlib.Core.Bool.{Bool, cond, false, true}
use mathlib.Core.List.{List, [], ◌∷◌}
use mathlib.Core.Option.{Option, none-ne-some, some-injective, none, some}
use mathlib.Core.Path.{◌∙◌, ◌≡◌, ap, refl, sym}
use native.Mathlib.Omega.{arith}
use Rattle.lists.specs.Lists.{keep}
use Rattle.reasons.specs.Explaining.{left_behind}

-- ---- one row passed

module _ (b : Bool) (n : ℕ) where
  pub pass_other : b ≡ false → some n ≡ left_behind b n
  unfolding left_behind
  pass_other e = sym (ap (λ (x : Bool). left_behind x n) e)

  pub pass_last : b ≡ true → n ≡ 0 → none ≡ left_behind b n
  unfolding left_behind
  pass_last e z = sym (λ i. left_behind (e i) (z i))

left_one : (n : ℕ) → (n ≡ 0 → ⊥) → some (n - 1) ≡ left_behind true n
unfolding left_behind
left_one zero z = absurd (z refl)
left_one (suc n) z = let e : suc n - 1 ≡ n = omega arith in ap some e

pub pass_one : (b : Bool) (n : ℕ) → b ≡ true → (n ≡ 0 → ⊥) → some (n - 1) ≡ left_behind b n
pass_one b n e z = left_one n z ∙ sym (ap (λ (x : Bool). left_behind x n) e)

-- ---- the row that is sought

-- what is left of a list from one of its elements on
drop_at : {A : Type 0} (xs : List A) (i : ℕ) (x : A) → get_elem? xs i ≡ some x → drop i xs ≡ x ∷ drop (i + 1) xs
drop_at [] i x e = absurd (none-ne-some _ e)
drop_at (y ∷ xs) zero x e = ap (λ (z : _). z ∷ xs) (some-injective _ _ e)
drop_at (y ∷ xs) (suc i) x e = let n : suc i + 1 ≡ suc (i + 1) = omega arith in drop_at xs i x e ∙ ap (λ (k : ℕ). x ∷ drop k (y ∷ xs)) (sym n)

module _ {A : Type 0} (f : A → Bool) (xs : List A) (n : ℕ) where
  -- what is sought is the one before which m of those from place r on stand
  abbrev pub Sought : ℕ → ℕ → Type 0
  Sought r m = get_elem? (keep f (drop r xs)) m ≡ get_elem? (keep f xs) n

  kept_at : (r : ℕ) (x : A) → get_elem? xs r ≡ some x → keep f (drop r xs) ≡ cond (f x) (x ∷ keep f (drop (r + 1) xs)) (keep f (drop (r + 1) xs))
  unfolding keep
  kept_at r x e = ap (keep f) (drop_at xs r x e)

  -- it is this one
  pub sought_here : (r m : ℕ) (x : A) → get_elem? xs r ≡ some x → left_behind (f x) m ≡ none → Sought r m → get_elem? xs r ≡ get_elem? (keep f xs) n
  sought_here r m x e h s = e ∙ go (f x) m h (ap (λ (ys : List A). get_elem? ys m) (sym (kept_at r x e)) ∙ s)
    where
      go : (b : Bool) (m : ℕ) → left_behind b m ≡ none → get_elem? (cond b (x ∷ keep f (drop (r + 1) xs)) (keep f (drop (r + 1) xs))) m ≡ get_elem? (keep f xs) n → some x ≡ get_elem? (keep f xs) n
      go true zero k s = s
      go true (suc m) k s = unfold left_behind in absurd (none-ne-some _ (sym k))
      go false m k s = unfold left_behind in absurd (none-ne-some _ (sym k))

  -- it is one behind it
  pub sought_on : (r m l : ℕ) (x : A) → get_elem? xs r ≡ some x → left_behind (f x) m ≡ some l → Sought r m → Sought (r + 1) l
  sought_on r m l x e h s = go (f x) m h (ap (λ (ys : List A). get_elem? ys m) (sym (kept_at r x e)) ∙ s)
    where
      go : (b : Bool) (m : ℕ) → left_behind b m ≡ some l → get_elem? (cond b (x ∷ keep f (drop (r + 1) xs)) (keep f (drop (r + 1) xs))) m ≡ get_elem? (keep f xs) n → get_elem? (keep f (drop (r + 1) xs)) l ≡ get_elem? (keep f xs) n
      go true zero k s = unfold left_behind in absurd (none-ne-some _ k)
      go true (suc m) k s = let e : some m ≡ some l = unfold left_behind in k in ap (get_elem? (keep f (drop (r + 1) xs))) (sym (some-injective _ _ e)) ∙ s
      go false m k s = let e : some m ≡ some l = unfold left_behind in k in ap (get_elem? (keep f (drop (r + 1) xs))) (sym (some-injective _ _ e)) ∙ s

  -- there is none
  pub sought_none : (r m : ℕ) → length xs ≤ r → Sought r m → none ≡ get_elem? (keep f xs) n
  unfolding keep
  sought_none r m h s = ap (λ (ys : List A). get_elem? (keep f ys) m) (sym (drop_of_length-le xs h)) ∙ s
