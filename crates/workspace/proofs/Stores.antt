-- What an array holds after several stores. Assumes nothing.
use Prim.Native.Nat.{◌<◌, suc, zero, ℕ}
use lib.ListN.{drop, get_or, length, length-set, set}
use lib.Seq.{get_or-set_other, get_or-set_same}
use mathlib.Core.List.{List, [], ◌∷◌}
use mathlib.Core.Logic.{◌≢◌}
use mathlib.Core.Path.{◌∙◌, ◌≡◌, refl}
use native.Mathlib.Nat.{not-suc-le-zero}
use native.Mathlib.Omega.{arith}

-- a store: where, and what
pub record Store : Type 0 where
  pub place : ℕ
  pub value : ℕ

-- the array after the stores, the first of them first
abbrev pub stores : List ℕ → List Store → List ℕ
stores ws [] = ws
stores ws (s ∷ ss) = stores (set ws s.place s.value) ss

-- no store goes to j: a pair of inequations for each, which `omega arith` proves
abbrev pub Apart : ℕ → List Store → Type 0
Apart j [] = Unit {0}
Apart j (s ∷ ss) = (j ≢ s.place) × Apart j ss

-- where no store goes, nothing changes
pub stores_other : (ws : List ℕ) (ss : List Store) (j : ℕ) → Apart j ss → get_or (stores ws ss) j 0 ≡ get_or ws j 0
stores_other ws [] j a = refl
stores_other ws (s ∷ ss) j a = stores_other (set ws s.place s.value) ss j a.1 ∙ get_or-set_other ws s.place j s.value 0 a.0

-- the store of number n
abbrev pub nth : List Store → ℕ → Store
nth ss n = get_or ss n (record { place = 0; value = 0 })

-- where it goes, its value stands, if no later one goes there
pub stores_same : (ws : List ℕ) (ss : List Store) (n : ℕ) → n < length ss → (nth ss n).place < length ws → Apart (nth ss n).place (drop (suc n) ss)
    → get_or (stores ws ss) (nth ss n).place 0 ≡ (nth ss n).value
stores_same ws [] n m l a = absurd (not-suc-le-zero m)
stores_same ws (s ∷ ss) zero m l a =
    stores_other (set ws s.place s.value) ss s.place a ∙ get_or-set_same ws s.place s.value 0 l
stores_same ws (s ∷ ss) (suc n) m l a =
    stores_same (set ws s.place s.value) ss n (omega (arith, m)) (omega (arith, l, length-set ws s.place s.value)) a
