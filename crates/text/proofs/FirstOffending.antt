-- The first offending word among those at the first n stored places. Assumes nothing.
use Prim.Native.Nat.{◌<◌, ◌≤◌, suc, zero, ℕ}
use lib.ListN.{get_or, length, take}
use mathlib.Core.Bool.{Bool, false, true}
use mathlib.Core.List.{List, [], ◌∷◌, map}
use mathlib.Core.Option.{Option, none, some}
use mathlib.Core.Path.{◌∙◌, ◌≡◌, ap}
use native.Mathlib.Omega.{arith}
use Rattle.lists.proofs.ListLaws.{map_map}
use Rattle.text.proofs.OffendingLaws.{leftmost_first, leftmost_nil, leftmost_skip, unless_false, unless_true}
use Rattle.text.specs.Offending.{leftmost, missing, unless}
use Rattle.text.specs.Words.{Word}

module _ (g : ℕ → Option Word) where
  pub first_of : (xs : List ℕ) (n j : ℕ) (w : Word) → n ≤ length xs → j < n → ((i : ℕ) → i < j → g (get_or xs i 0) ≡ none) → g (get_or xs j 0) ≡ some w → leftmost (map g (take n xs)) ≡ some w
  first_of [] n j w a b h e = absurd (omega (arith, a, b))
  first_of (x ∷ xs) zero j w a b h e = absurd (omega (arith, b))
  first_of (x ∷ xs) (suc n) zero w a b h e = leftmost_first (g x) (map g (take n xs)) w e
  first_of (x ∷ xs) (suc n) (suc j) w a b h e =
      leftmost_skip (g x) (map g (take n xs)) (h 0 (omega arith))
      ∙ first_of xs n j w (omega (arith, a)) (omega (arith, b)) (λ i l. h (suc i) (omega (arith, l))) e

  pub none_of : (xs : List ℕ) (n : ℕ) → n ≤ length xs → ((i : ℕ) → i < n → g (get_or xs i 0) ≡ none) → leftmost (map g (take n xs)) ≡ none
  none_of [] zero a h = leftmost_nil
  none_of [] (suc n) a h = leftmost_nil
  none_of (x ∷ xs) zero a h = leftmost_nil
  none_of (x ∷ xs) (suc n) a h = leftmost_skip (g x) (map g (take n xs)) (h 0 (omega arith)) ∙ none_of xs n (omega (arith, a)) (λ i l. h (suc i) (omega (arith, l)))

-- the same of a test of the words at the places
module _ (f : Word → Bool) (word : ℕ → Word) where
  missing_places : (ps : List ℕ) → missing f (map word ps) ≡ leftmost (map (λ p. unless (f (word p)) (word p)) ps)
  unfolding missing
  missing_places ps = ap leftmost (map_map (λ w. unless (f w) w) word ps)

  pub first_missing_lem : (xs : List ℕ) (n j : ℕ) → n ≤ length xs → j < n → ((i : ℕ) → i < j → f (word (get_or xs i 0)) ≡ true) → f (word (get_or xs j 0)) ≡ false → missing f (map word (take n xs)) ≡ some (word (get_or xs j 0))
  first_missing_lem xs n j a b h e =
      missing_places (take n xs)
      ∙ first_of (λ p. unless (f (word p)) (word p)) xs n j (word (get_or xs j 0)) a b (λ i l. unless_true _ _ (h i l)) (unless_false _ _ e)

  pub none_missing : (xs : List ℕ) (n : ℕ) → n ≤ length xs → ((i : ℕ) → i < n → f (word (get_or xs i 0)) ≡ true) → missing f (map word (take n xs)) ≡ none
  none_missing xs n a h = missing_places (take n xs) ∙ none_of (λ p. unless (f (word p)) (word p)) xs n a (λ i l. unless_true _ _ (h i l))
