-- Contract: what functions of this crate promise, where it takes more than a line.
use Rattle.std.specs.Prelude.{◌+◌, ◌<◌, ℕ, true, List, [], ◌++◌, ◌∷◌, ◌≡◌}
use Rattle.condition.specs.Cond.{map_cond}
use Rattle.document.specs.Meaning.{attribute_comparison}
use Rattle.document.specs.Policy.{CondRole, Policy}
use Rattle.principals.specs.CondRoles.{CondRoles, attributes_known, condition_in_line, condition_reads}
use Rattle.text.specs.Words.{word_at}
use Rattle.workspace.specs.Hash.{print_of}

-- conds::store_cond_role: one conditional role more, where there is room
abbrev pub StoreCondRolePromise : (ws ws' : List ℕ) (k pos role start end place h : ℕ) → Type 0
StoreCondRolePromise ws ws' k pos role start end place h =
    (d : Policy) (text : List ℕ) (cs : List CondRole) → CondRoles d text ws k cs → h ≡ print_of (word_at text pos) →
    attributes_known d (condition_in_line text start end place) ≡ true → condition_reads text start end place ≡ true →
    CondRoles d text ws' (k + 1) (cs ++ (record { name = word_at text pos; role = role; condition = map_cond (attribute_comparison d) (condition_in_line text start end place) } ∷ []))

-- conds::add_cond_role: one conditional role more, whose name stands at pos of the text and has the print h, and whose condition stands at `place` of the line from `start` to `end`
abbrev pub AddCondRolePromise : (ws ws' : List ℕ) (k pos role start end place h : ℕ) → Type 0
AddCondRolePromise ws ws' k pos role start end place h =
    (d : Policy) (text : List ℕ) (cs : List CondRole) → CondRoles d text ws k cs → h ≡ print_of (word_at text pos) → k < 64 →
    attributes_known d (condition_in_line text start end place) ≡ true → condition_reads text start end place ≡ true →
    CondRoles d text ws' (k + 1) (cs ++ (record { name = word_at text pos; role = role; condition = map_cond (attribute_comparison d) (condition_in_line text start end place) } ∷ []))
