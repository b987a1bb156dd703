-- `build_one` and `build_list` call each other: what is left of the text gets shorter; on the same text `build_list` calls `build_one`.
use Prim.Native.Nat.{◌*◌, ◌+◌, ◌-◌, ◌≤◌}
use lib.ListN.{length}
use mathlib.Core.Option.{some}
use mathlib.Core.Path.{◌≡◌}
use Rattle.condition.proofs.CondEats.{eats_condition, size}
use Rattle.condition.specs.Answers.{joining, naming_by}
use Rattle.condition.specs.Cond.{Cond}
use Rattle.condition.specs.CondForm.{Compared, condition, conditions}
use Rattle.text.specs.Reader.{Left, from}
use Rattle.program.proofs.BuildLaws.{Listing}
use Rattle.program.proofs.building.+build_list_build_one.Given as goal

abbrev pub decreases-build_list : goal.decreases-build_list
decreases-build_list l = 2 * (length l.s.now - l.at) + 1

abbrev pub decreases-build_one : goal.decreases-build_one
decreases-build_one l = 2 * (length l.s.now - l.at)

abbrev pub invariant-build_list-loop-e : goal.invariant-build_list-loop-e
invariant-build_list-loop-e l = record {
  lists : (x : Cond Compared) (rest : Left) → conditions (joining l.one) (condition (naming_by l.joined) l.depth) (from l.s l.at) ≡ some (x, rest) → Listing l.one (condition (naming_by l.joined) l.depth) (λ c. 2 + size c) (eats_condition (naming_by l.joined) l.depth) l.s l.k l.hit l.miss l.odd l.initial.trues l.initial.falses l.initial.flips x rest l.trues l.falses l.flips l.i l.n;
  few : l.n ≤ l.i;
  past : l.at ≤ l.i;
}

abbrev pub decreases-build_list-loop-e : goal.decreases-build_list-loop-e
decreases-build_list-loop-e l = length l.s - l.i
