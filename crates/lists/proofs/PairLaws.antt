-- Pairs and triples that code found: what two that are the same have in common, and that nothing found is none of them. Assumes nothing.
use Rattle.std.specs.Prelude.{None, Option, Some, ◌≡◌, ℕ}
use mathlib.Core.Path.{ap}
use native.Mathlib.Omega.{arith}

module _ {A B : Type 0} where
  -- two pairs that were found are the same in both parts
  pub pair_same : {a c : A} {b d : B} → ◌≡◌ {A = Option (A × B)} (Some (a, b)) (Some (c, d)) → (a ≡ c) × (b ≡ d)
  pair_same {a} {c} {b} {d} h = let q : ◌≡◌ {A = A × B} (a, b) (c, d) = cc in (ap (λ z. z.0) q, ap (λ z. z.1) q)

  -- a pair that was found is not nothing
  pub pair_found : {Q : Type 0} {a : A} {b : B} → ◌≡◌ {A = Option (A × B)} (Some (a, b)) None → Q
  pair_found h = let z : ◌≡◌ {A = ℕ} 0 1 = cc in absurd (omega arith)

  -- nothing is no pair that was found
  pub pair_missing : {Q : Type 0} {a : A} {b : B} → ◌≡◌ {A = Option (A × B)} None (Some (a, b)) → Q
  pair_missing h = let z : ◌≡◌ {A = ℕ} 0 1 = cc in absurd (omega arith)

-- the same of three parts
pub triple_same : {A B C : Type 0} {a a' : A} {b b' : B} {c c' : C} → ◌≡◌ {A = Option (A × B × C)} (Some (a, b, c)) (Some (a', b', c')) → (a ≡ a') × (b ≡ b') × (c ≡ c')
triple_same {A} {B} {C} {a} {a'} {b} {b'} {c} {c'} h = let q : ◌≡◌ {A = A × B × C} (a, b, c) (a', b', c') = cc in (ap (λ z. z.0) q, ap (λ z. z.1) q, ap (λ z. z.2) q)
