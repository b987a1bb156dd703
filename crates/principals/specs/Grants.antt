-- Contract: how the workspace holds grants: purposes from 0, conditional roles from 128.
use Rattle.std.specs.Prelude.{◌+◌, ◌≤◌, ℕ, get_or, List, ◌≡◌}
use Rattle.document.specs.Policy.{Grant}
use Rattle.workspace.specs.Tabulated.{tabulated}

unfoldable pub grant_in : List ℕ → ℕ → Grant
grant_in ws i = record { purpose = get_or ws i 0; cond_role = get_or ws (128 + i) 0 }

pub record Grants (ws : List ℕ) (k : ℕ) (gs : List Grant) : Type 0 where
  pub few : k ≤ 128
  pub are : tabulated (grant_in ws) k ≡ gs
