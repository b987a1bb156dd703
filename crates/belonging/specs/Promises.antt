-- Contract: what functions of this crate promise, where it takes more than a line.
use Rattle.std.specs.Prelude.{◌<◌, ◌≤◌, ℕ, get_or, length, take, Bool, false, true, List, map, ◌≡◌}
use Rattle.std.proofs.Math.ListN.{get_elem?}
use Rattle.std.proofs.Math.Option.{some}
use Rattle.belonging.specs.Held.{Held, Told, comparison_holds, condition_holds}
use Rattle.belonging.specs.Values.{Values}
use Rattle.condition.specs.Answers.{compared_at}
use Rattle.condition.specs.Cond.{comparisons, holds}
use Rattle.condition.specs.CondForm.{condition_in_form}
use Rattle.document.specs.Lookup.{attribute_of}
use Rattle.document.specs.Policy.{CondRole, Policy, User, tree_of}
use Rattle.lists.specs.Lists.{all_of, find_index, there}
use Rattle.principals.specs.Attributes.{Attributes}
use Rattle.principals.specs.CondRoles.{CondRoles, attributes_known, cond_role_in, condition_read}
use Rattle.principals.specs.Grants.{Grants}
use Rattle.principals.specs.Nodes.{Nodes}
use Rattle.purpose.specs.Compliance.{in_tree}
use Rattle.purpose.specs.Meaning.{ClosureOf}
use Rattle.query.specs.Authority as authority
use Rattle.query.specs.Authority.{in_range}
use Rattle.query.specs.HostClock.{clock_of}
use Rattle.text.specs.Reader.{from}
use Rattle.workspace.specs.Found.{found_as}
use Rattle.purpose.specs.declared.Closure.{Closure}
use Rattle.query.specs.declared.clock.Clock as host

-- held::fill_truths: stores of the first n comparisons, by the places of their operators, whether they hold
abbrev pub FillTruthsPromise : (text attributes : List ℕ) (acount : ℕ) (clock : host.Clock) (user values line ops : List ℕ) (n : ℕ) (truths' : List Bool) → Type 0
FillTruthsPromise text attributes acount clock user values line ops n truths' =
    (d : Policy) (u : User) → Told text attributes acount (clock_of clock) user values d u →
    ((j : ℕ) → j < n → there (attribute_of d (compared_at line (get_or ops j 0)).of) ≡ true) → (j : ℕ) → j < n →
    get_or truths' j false ≡ comparison_holds d (clock_of clock) u (compared_at line (get_or ops j 0))

-- held::store_truths: the same by an array of places and an array of truths
abbrev pub StoreTruthsPromise : (text attributes : List ℕ) (acount : ℕ) (clock : host.Clock) (user values line ops : List ℕ) (n : ℕ) (truths' : List Bool) → Type 0
StoreTruthsPromise text attributes acount clock user values line ops n truths' =
    n ≤ 64 → (d : Policy) (u : User) → Told text attributes acount (clock_of clock) user values d u →
    all_of (λ x. there (attribute_of d x.of)) (map (compared_at line) (take n ops)) ≡ true →
    map (comparison_holds d (clock_of clock) u) (map (compared_at line) (take n ops)) ≡ take n truths'

-- held::condition_holds: whether the condition at a place of a line holds. One that was stored can be read again
abbrev pub ConditionHoldsPromise : (text attributes : List ℕ) (acount : ℕ) (clock : host.Clock) (user values line : List ℕ) (place : ℕ) (r : Bool) → Type 0
ConditionHoldsPromise text attributes acount clock user values line place r =
    (d : Policy) (u : User) → Told text attributes acount (clock_of clock) user values d u → there (condition_in_form (from line place)) ≡ true →
    attributes_known d (condition_read (condition_in_form (from line place))) ≡ true →
    length (comparisons (condition_read (condition_in_form (from line place)))) ≤ 64 →
    r ≡ holds (comparison_holds d (clock_of clock) u) (condition_read (condition_in_form (from line place)))

-- held::role_holds: whether the condition of conditional role i holds. Its line is cut to lie in the text
abbrev pub RoleHoldsPromise : (text attributes : List ℕ) (acount : ℕ) (conds : List ℕ) (clock : host.Clock) (user values : List ℕ) (i : ℕ) (r : Bool) → Type 0
RoleHoldsPromise text attributes acount conds clock user values i r =
    (d : Policy) (u : User) (k : ℕ) (rs : List CondRole) → Told text attributes acount (clock_of clock) user values d u → CondRoles d text conds k rs →
    i < k → length (comparisons (cond_role_in d text conds i).condition) ≤ 64 → r ≡ condition_holds (clock_of clock) u (cond_role_in d text conds i)

-- held::store_held: stores of each conditional role, of which there are ccount, whether its condition holds for the clock and for the user whose values stand in the line at the places stored
abbrev pub StoreHeldPromise : (text attributes : List ℕ) (acount : ℕ) (conds : List ℕ) (ccount : ℕ) (clock : host.Clock) (line values : List ℕ) (held' : List Bool) → Type 0
StoreHeldPromise text attributes acount conds ccount clock line values held' =
    (d : Policy) (u : User) → Attributes text attributes acount d.attributes → CondRoles d text conds ccount d.cond_roles →
    ((i : ℕ) (r : CondRole) → get_elem? d.cond_roles i ≡ some r → length (comparisons r.condition) ≤ 64) → in_range (clock_of clock) ≡ true →
    Values line u.values values → Held (clock_of clock) u d.cond_roles held'
