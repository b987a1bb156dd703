-- Grants in the workspace: one more, and reading one. Assumes nothing.
use Prim.Native.Nat.{◌+◌, ◌<◌, ℕ}
use lib.ListN.{get_or, get_elem?, length, set}
use mathlib.Core.List.{List, [], ◌++◌, ◌∷◌}
use mathlib.Core.Option.{some}
use mathlib.Core.Path.{◌∙◌, ◌≡◌, ap, refl, subst, sym}
use native.Mathlib.Omega.{arith}
use Rattle.document.specs.Policy.{Grant}
use Rattle.workspace.proofs.TabulatedLaws.{tabulated_pushed, tabulated_there}
use Rattle.workspace.proofs.Stores.{Store, stores, stores_other, stores_same}
use Rattle.principals.specs.Grants.{Grants, grant_in}
use Rattle.workspace.specs.Tabulated.{tabulated}

-- no grant yet
pub grants_start : (ws : List ℕ) → Grants ws 0 []
unfolding tabulated
grants_start ws = record { few = omega arith; are = refl }

-- one more: its purpose, and its conditional role
abbrev grant_stores : (k p c : ℕ) → List Store
grant_stores k p c = record { place = k; value = p } ∷ record { place = 128 + k; value = c } ∷ []

module _ (ws : List ℕ) (k p c : ℕ) (full : length ws ≡ 256) (small : k < 128) where
  grant_kept : (i : ℕ) → i < k → grant_in (stores ws (grant_stores k p c)) i ≡ grant_in ws i
  unfolding grant_in
  grant_kept i l = λ j. record {
    purpose = stores_other ws (grant_stores k p c) i (omega arith) j;
    cond_role = stores_other ws (grant_stores k p c) (128 + i) (omega arith) j;
  }

  grant_new : grant_in (stores ws (grant_stores k p c)) k ≡ record { purpose = p; cond_role = c }
  unfolding grant_in
  grant_new = λ j. record {
    purpose = stores_same ws (grant_stores k p c) 0 (omega arith) (omega arith) (omega arith) j;
    cond_role = stores_same ws (grant_stores k p c) 1 (omega arith) (omega arith) (omega arith) j;
  }

  -- one grant more, stored number by number
  pub grants_pushed : (w₁ w₂ : List ℕ) (gs : List Grant) → w₁ ≡ set ws k p → w₂ ≡ set w₁ (128 + k) c → Grants ws k gs
      → Grants w₂ (k + 1) (gs ++ (record { purpose = p; cond_role = c } ∷ []))
  grants_pushed w₁ w₂ gs s₁ s₂ h =
      subst (λ (w : List ℕ). Grants w (k + 1) (gs ++ (record { purpose = p; cond_role = c } ∷ []))) (sym (s₂ ∙ ap (λ w. set w (128 + k) c) s₁))
      (record { few = omega arith; are = tabulated_pushed (grant_in ws) (grant_in (stores ws (grant_stores k p c))) k gs _ h.are grant_kept grant_new })

-- a grant that is there
module _ (ws : List ℕ) (i k : ℕ) (gs : List Grant) (g : Grant) (h : Grants ws k gs) (e : get_elem? gs i ≡ some g) where
  grant_there : (i < k) × (g ≡ grant_in ws i)
  grant_there = tabulated_there (grant_in ws) k i g (ap (λ l. get_elem? l i) h.are ∙ e)

  pub grant_below : i < 128
  grant_below = omega (arith, h.few, grant_there.0)

  pub purpose_there : get_or ws i 0 ≡ g.purpose
  unfolding grant_in
  purpose_there = sym (ap (λ x. x.purpose) grant_there.1)

  pub cond_role_there : get_or ws (128 + i) 0 ≡ g.cond_role
  unfolding grant_in
  cond_role_there = sym (ap (λ x. x.cond_role) grant_there.1)
