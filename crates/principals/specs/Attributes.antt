-- Contract: how the workspace holds attributes but the clock's: names from 0, roles from 32, types from 64.
use Rattle.std.specs.Prelude.{◌+◌, ◌≤◌, ℕ, get_or, List, ◌++◌, ◌≡◌}
use Rattle.std.proofs.Math.Option.{some}
use Rattle.document.specs.Policy.{Attribute, clock_attributes}
use Rattle.workspace.specs.Tabulated.{tabulated}
use Rattle.text.specs.Words.{word_at}
use Rattle.workspace.specs.Cells.{kind_of_cell}

unfoldable pub attribute_in : List ℕ → List ℕ → ℕ → Attribute
attribute_in text ws i = record { name = word_at text (get_or ws i 0); role = some (get_or ws (32 + i) 0); kind = kind_of_cell (get_or ws (64 + i) 0) }

pub record Attributes (text ws : List ℕ) (k : ℕ) (as' : List Attribute) : Type 0 where
  pub few : k ≤ 32
  pub are : clock_attributes ++ tabulated (attribute_in text ws) k ≡ as'
