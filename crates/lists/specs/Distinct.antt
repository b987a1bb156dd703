-- Meaning: lists of which no two elements are the same, by a test that need not be equality. Assumes nothing.
use Rattle.std.specs.Prelude.{ℕ, Bool, true, List, ◌≡◌}
use Rattle.std.proofs.Math.ListN.{get_elem?}
use Rattle.std.proofs.Math.Option.{some}

-- no two elements are the same: those at two numbers are the same only if the numbers are
pub record NoTwoSame {A : Type 0} (same : A → A → Bool) (xs : List A) : Type 0 where
  pub alone : (i j : ℕ) (x y : A) → get_elem? xs i ≡ some x → get_elem? xs j ≡ some y → same x y ≡ true → i ≡ j
