-- `belonging::held::fill_held` meets its contract. The loop's invariant: the truths of the conditional roles passed are stored. Assumes nothing.
use Prim.Native.Nat.{◌-◌, ◌<◌, ◌≤◌, ℕ}
use lib.ListN.{get_or, get_elem?, length}
use mathlib.Core.Bool.{false}
use mathlib.Core.List.{List}
use mathlib.Core.Option.{some}
use mathlib.Core.Path.{◌≡◌}
use Rattle.belonging.specs.Held.{Told, condition_holds}
use Rattle.condition.specs.Cond.{comparisons}
use Rattle.document.specs.Policy.{CondRole, Policy, User}
use Rattle.principals.specs.CondRoles.{CondRoles, cond_role_in}
use Rattle.query.specs.HostClock.{clock_of}
use Rattle.belonging.proofs.held.fill_held.Given as goal

abbrev pub invariant-loop-i : goal.invariant-loop-i
invariant-loop-i l = (l.i ≤ l.n) × (length l.held ≡ length l.initial.held)
    × ((d : Policy) (u : User) (rs : List CondRole) → Told l.text l.attributes l.acount (clock_of l.clock) l.user l.values d u → CondRoles d l.text l.conds l.n rs
    → ((j : ℕ) (r : CondRole) → get_elem? rs j ≡ some r → length (comparisons r.condition) ≤ 64)
    → (j : ℕ) → j < l.i → get_or l.held j false ≡ condition_holds (clock_of l.clock) u (cond_role_in d l.text l.conds j))
