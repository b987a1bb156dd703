-- Contract: lists by what stands at each number.
use Rattle.std.specs.Prelude.{suc, zero, ℕ, List, [], ◌++◌, ◌∷◌}

-- what f gives for 0, 1, 2 and so on, k of them
unfoldable pub tabulated : {A : Type 0} → (ℕ → A) → ℕ → List A
tabulated f zero = []
tabulated f (suc k) = tabulated f k ++ (f k ∷ [])
