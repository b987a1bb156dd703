-- Where a loop over the places from `at` to a text's end stops that did not leave before: at the greater of the two. Assumes nothing.
use Prim.Native.Nat.{◌<◌, ◌≤◌, max, suc, zero, ℕ}
use mathlib.Core.Logic.{◌⊎◌, inl, inr, ⊎_elim}
use mathlib.Core.Path.{◌≡◌, subst}
use native.Mathlib.Omega.{arith}

below_or_not : (a b : ℕ) → (a < b) ⊎ (b ≤ a)
below_or_not zero zero = inr (omega arith)
below_or_not zero (suc b) = inl (omega arith)
below_or_not (suc a) zero = inr (omega arith)
below_or_not (suc a) (suc b) = ⊎_elim (λ (h : a < b). inl (omega arith)) (λ (h : b ≤ a). inr (omega arith)) (below_or_not a b)

-- what holds at the place where the loop stopped, and at `at` if the text ends before it, holds at the greater of the two
pub scan_end : (P : ℕ → Type 0) {at n i m : ℕ} → m ≡ max at n → n ≤ i → (at ≤ n → i ≤ n) → (n ≤ at → P at) → P i → P m
scan_end P {at} {n} {i} {m} most past inside none some = go (below_or_not at n)
  where
    go : (at < n) ⊎ (n ≤ at) → P m
    go (inl l) = let e : i ≡ m = omega (arith, inside (omega arith)) in subst P e some
    go (inr l) = let e : at ≡ m = omega arith in subst P e (none l)
