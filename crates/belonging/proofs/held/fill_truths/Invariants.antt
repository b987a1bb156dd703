-- `belonging::held::fill_truths` meets its contract. The loop's invariant: the truths of the comparisons passed are stored. Assumes nothing.
use Prim.Native.Nat.{◌-◌, ◌<◌, ◌≤◌, ℕ}
use lib.ListN.{get_or, length}
use mathlib.Core.Bool.{false, true}
use mathlib.Core.Path.{◌≡◌}
use Rattle.belonging.specs.Held.{Told, comparison_holds}
use Rattle.condition.specs.Answers.{compared_at}
use Rattle.document.specs.Lookup.{attribute_of}
use Rattle.document.specs.Policy.{Policy, User}
use Rattle.lists.specs.Lists.{there}
use Rattle.query.specs.HostClock.{clock_of}
use Rattle.belonging.proofs.held.fill_truths.Given as goal

abbrev pub invariant-loop-i : goal.invariant-loop-i
invariant-loop-i l = (l.i ≤ l.n) × (length l.truths ≡ length l.initial.truths)
    × ((d : Policy) (u : User) → Told l.text l.attributes l.acount (clock_of l.clock) l.user l.values d u → ((j : ℕ) → j < l.n → there (attribute_of d (compared_at l.line (get_or l.ops j 0)).of) ≡ true)
    → (j : ℕ) → j < l.i → get_or l.truths j false ≡ comparison_holds d (clock_of l.clock) u (compared_at l.line (get_or l.ops j 0)))
