-- Contract: how the workspace holds conditional roles: names from 0, roles from 64, the start and the end of the line from 128
-- and 192, the place of the condition in it from 256, the names' prints from 320.
use Rattle.std.specs.Prelude.{◌+◌, ◌<◌, ◌≤◌, ℕ, get_or, Bool, true, List, [], ◌≡◌}
use Rattle.std.proofs.Math.Option.{Option, none, some}
use Rattle.condition.specs.Cond.{Cond, comparisons, map_cond, test}
use Rattle.condition.specs.CondForm.{Compared, condition_in_form}
use Rattle.condition.specs.Kinds.{eq}
use Rattle.document.specs.Lookup.{attribute_of}
use Rattle.document.specs.Meaning.{attribute_comparison}
use Rattle.document.specs.Policy.{CondRole, Policy}
use Rattle.workspace.specs.Hash.{Printed}
use Rattle.workspace.specs.Tabulated.{tabulated}
use Rattle.lists.specs.Lists.{all_of, there}
use Rattle.text.specs.Reader.{Left, from}
use Rattle.text.specs.Words.{plain_word, word_at}
use Rattle.workspace.specs.Cells.{line_in}

-- a condition, where none was read: a default, which `CondRoles` excludes
unfoldable pub no_condition : Cond Compared
no_condition = test (record { op = eq; operator = plain_word []; of = plain_word []; value = plain_word [] })

-- the condition that was read
unfoldable pub condition_read : Option (Cond Compared × Left) → Cond Compared
condition_read none = no_condition
condition_read (some r) = r.0

-- the condition that stands at a place of the line from a to e of the text, as read
unfoldable pub condition_in_line : List ℕ → ℕ → ℕ → ℕ → Cond Compared
condition_in_line text a e place = condition_read (condition_in_form (from (line_in text a e) place))

-- the role of conditional role i
abbrev pub cond_role_role_in : List ℕ → ℕ → ℕ
cond_role_role_in ws i = get_or ws (64 + i) 0

-- where its line starts in the text
abbrev pub cond_role_start_in : List ℕ → ℕ → ℕ
cond_role_start_in ws i = get_or ws (128 + i) 0

-- where its line ends
abbrev pub cond_role_end_in : List ℕ → ℕ → ℕ
cond_role_end_in ws i = get_or ws (192 + i) 0

-- where its condition stands in the line
abbrev pub cond_role_place_in : List ℕ → ℕ → ℕ
cond_role_place_in ws i = get_or ws (256 + i) 0

-- a condition can be read there
unfoldable pub condition_reads : List ℕ → ℕ → ℕ → ℕ → Bool
condition_reads text a e place = there (condition_in_form (from (line_in text a e) place))

-- that of the conditional role of number i
unfoldable pub condition_in : List ℕ → List ℕ → ℕ → Cond Compared
condition_in text ws i = condition_in_line text (cond_role_start_in ws i) (cond_role_end_in ws i) (cond_role_place_in ws i)

-- the condition of the conditional role of number i can be read again
unfoldable pub reads_in : List ℕ → List ℕ → ℕ → Bool
reads_in text ws i = condition_reads text (cond_role_start_in ws i) (cond_role_end_in ws i) (cond_role_place_in ws i)

-- the policy knows the attributes that the condition compares
unfoldable pub attributes_known : Policy → Cond Compared → Bool
attributes_known d c = all_of (λ x. there (attribute_of d x.of)) (comparisons c)

unfoldable pub cond_role_in : Policy → List ℕ → List ℕ → ℕ → CondRole
cond_role_in d text ws i = record {
  name = word_at text (get_or ws i 0);
  role = cond_role_role_in ws i;
  condition = map_cond (attribute_comparison d) (condition_in text ws i);
}

pub record CondRoles (d : Policy) (text ws : List ℕ) (k : ℕ) (cs : List CondRole) : Type 0 where
  pub few : k ≤ 64
  pub are : tabulated (cond_role_in d text ws) k ≡ cs
  pub known : (i : ℕ) → i < k → attributes_known d (condition_in text ws i) ≡ true
  pub reads : (i : ℕ) → i < k → reads_in text ws i ≡ true
  pub printed : (i : ℕ) → i < k → Printed 320 text ws i
