-- What an array holds after several stores, at a place where none of them went; what the number of a type stands for. Assumes nothing.
use Prim.Native.Nat.{suc, zero, ℕ}
use lib.ListN.{get_or, set}
use lib.Seq.{get_or-set_other}
use mathlib.Core.List.{List}
use mathlib.Core.Path.{◌∙◌, ◌≡◌, refl}
use Rattle.condition.specs.Kinds.{dates}
use Rattle.workspace.specs.Cells.{kind_of_cell}

pub kept_3 : (ws : List ℕ) (a b c u v w n : ℕ) → (n ≡ a → ⊥) → (n ≡ b → ⊥) → (n ≡ c → ⊥) → get_or (set (set (set ws a u) b v) c w) n 0 ≡ get_or ws n 0
kept_3 ws a b c u v w n p q r =
    get_or-set_other (set (set ws a u) b v) c n w 0 r ∙ get_or-set_other (set ws a u) b n v 0 q ∙ get_or-set_other ws a n u 0 p

pub kept_4 : (ws : List ℕ) (a b c d u v w x n : ℕ) → (n ≡ a → ⊥) → (n ≡ b → ⊥) → (n ≡ c → ⊥) → (n ≡ d → ⊥) → get_or (set (set (set (set ws a u) b v) c w) d x) n 0 ≡ get_or ws n 0
kept_4 ws a b c d u v w x n p q r s = get_or-set_other (set (set (set ws a u) b v) c w) d n x 0 s ∙ kept_3 ws a b c u v w n p q r

-- any number but 0 and 1 stands for dates
pub kind_dates : (n : ℕ) → (n ≡ 0 → ⊥) → (n ≡ 1 → ⊥) → kind_of_cell n ≡ dates
unfolding kind_of_cell
kind_dates zero h k = absurd (h refl)
kind_dates (suc zero) h k = absurd (k refl)
kind_dates (suc (suc n)) h k = refl
