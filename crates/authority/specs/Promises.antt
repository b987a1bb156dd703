-- Contract: what functions of this crate promise, where it takes more than a line.
use Rattle.std.specs.Prelude.{◌<◌, ◌≤◌, ℕ, get_or, length, take, Bool, false, true, List, map, ◌≡◌}
use Rattle.std.proofs.Math.ListN.{get_elem?}
use Rattle.std.proofs.Math.Option.{some}
use Rattle.belonging.specs.Held.{Held, Told, comparison_holds, condition_holds}
use Rattle.belonging.specs.Values.{Values}
use Rattle.condition.specs.Answers.{compared_at}
use Rattle.condition.specs.Cond.{comparisons, holds}
use Rattle.condition.specs.CondForm.{condition_in_form}
use Rattle.document.specs.Lookup.{attribute_of}
use Rattle.document.specs.Policy.{CondRole, Policy, User, tree_of}
use Rattle.lists.specs.Lists.{all_of, find_index, there}
use Rattle.principals.specs.Attributes.{Attributes}
use Rattle.principals.specs.CondRoles.{CondRoles, attributes_known, cond_role_in, condition_read}
use Rattle.principals.specs.Grants.{Grants}
use Rattle.principals.specs.Nodes.{Nodes}
use Rattle.purpose.specs.Compliance.{in_tree}
use Rattle.purpose.specs.Meaning.{ClosureOf}
use Rattle.query.specs.Authority as authority
use Rattle.query.specs.Authority.{in_range}
use Rattle.query.specs.HostClock.{clock_of}
use Rattle.text.specs.Reader.{from}
use Rattle.workspace.specs.Found.{found_as}
use Rattle.purpose.specs.declared.Closure.{Closure}
use Rattle.query.specs.declared.clock.Clock as host
use Rattle.std.specs.Prelude.{Option}

-- grants::first_grant: the first of the grants whose purpose is above the one with this closure, and whose conditional role is over a role above `role` and has a condition that holds
abbrev pub FirstGrantPromise : (closure : Closure) (roles : List ℕ) (rcount : ℕ) (conds : List ℕ) (ccount : ℕ) (grants : List ℕ) (gcount : ℕ) (held : List Bool) (role : ℕ) (x : Option ℕ) → Type 0
FirstGrantPromise closure roles rcount conds ccount grants gcount held role x =
    (d : Policy) (text : List ℕ) (c : authority.Clock) (u : User) (p : ℕ) → Nodes 64 text roles rcount d.roles →
    CondRoles d text conds ccount d.cond_roles → Grants grants gcount d.grants → ClosureOf (tree_of d.purposes) p closure →
    in_tree (tree_of d.purposes) p ≡ true → Held c u d.cond_roles held → role ≡ u.role →
    found_as x ≡ find_index (authority.authorises d c u p) d.grants
