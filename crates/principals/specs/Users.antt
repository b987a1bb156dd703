-- Contract: how the workspace holds users: names from 0, roles from 256, the start and the end of the line from 512 and 768, the
-- place of the values in it from 1,024, the names' prints from 1,280. What the values mean is said by the attributes of the policy d.
use Rattle.std.specs.Prelude.{◌+◌, ◌<◌, ◌≤◌, ℕ, eqb, get_or, Bool, ◌&&◌, List, map, ◌≡◌}
use Rattle.document.specs.Meaning.{given_of}
use Rattle.document.specs.Policy.{Policy, User}
use Rattle.form.specs.Walks.{givens_at}
use Rattle.workspace.specs.Hash.{Printed}
use Rattle.workspace.specs.Tabulated.{tabulated}
use Rattle.text.specs.Words.{Word, is_called, word_at}
use Rattle.workspace.specs.Cells.{line_in}

-- the role of user form i
abbrev pub user_role_in : List ℕ → ℕ → ℕ
user_role_in ws i = get_or ws (256 + i) 0

-- where its line starts in the text
abbrev pub user_start_in : List ℕ → ℕ → ℕ
user_start_in ws i = get_or ws (512 + i) 0

-- where its line ends
abbrev pub user_end_in : List ℕ → ℕ → ℕ
user_end_in ws i = get_or ws (768 + i) 0

-- where its values stand in the line
abbrev pub user_place_in : List ℕ → ℕ → ℕ
user_place_in ws i = get_or ws (1024 + i) 0

unfoldable pub user_in : Policy → List ℕ → List ℕ → ℕ → User
user_in d text ws i = record {
  name = word_at text (get_or ws i 0);
  role = user_role_in ws i;
  values = map (given_of d) (givens_at (line_in text (user_start_in ws i) (user_end_in ws i)) (user_place_in ws i));
}

-- the user form of number i has this name and this role
abbrev pub user_passes : Word → List ℕ → List ℕ → ℕ → ℕ → Bool
user_passes w text ws held i = is_called w (word_at text (get_or ws i 0)) && eqb (get_or ws (256 + i) 0) held

pub record Users (d : Policy) (text ws : List ℕ) (k : ℕ) (us : List User) : Type 0 where
  pub few : k ≤ 256
  pub are : tabulated (user_in d text ws) k ≡ us
  pub printed : (i : ℕ) → i < k → Printed 1280 text ws i
