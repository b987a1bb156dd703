-- `walk_one`, `walk_rest` and `walk_list` call each other: what is left of the text gets shorter; on the same text `walk_rest` calls
-- `walk_list`, and `walk_list` calls `walk_one`.
use Prim.Native.Nat.{◌*◌, ◌+◌, ◌-◌, ◌≤◌}
use lib.ListN.{length}
use mathlib.Core.Bool.{Bool}
use mathlib.Core.Path.{◌≡◌}
use Rattle.condition.proofs.WalkLaws.{list_of, walks}
use Rattle.condition.specs.Answers.{joining, naming_by, walked}
use Rattle.condition.specs.CondForm.{condition, conditions}
use Rattle.text.proofs.AnswerLaws.{answer_of}
use Rattle.text.specs.Brackets.{many}
use Rattle.text.specs.Reader.{from}
use Rattle.condition.proofs.walk.+walk_list_walk_one_walk_rest.Given as goal

abbrev pub decreases-walk_list : goal.decreases-walk_list
decreases-walk_list l = 3 * (length l.s.now - l.at) + 1

abbrev pub decreases-walk_one : goal.decreases-walk_one
decreases-walk_one l = 3 * (length l.s.now - l.at)

abbrev pub decreases-walk_rest : goal.decreases-walk_rest
decreases-walk_rest l = 3 * (length l.s.now - l.at) + 2

abbrev pub invariant-walk_list-loop-i : goal.invariant-walk_list-loop-i
invariant-walk_list-loop-i l = record {
  walks : (one : Bool) → answer_of walks (list_of l.n) (many (condition (naming_by l.joined) l.depth) (from l.s l.i)) ≡ walked l.k (conditions (joining one) (condition (naming_by l.joined) l.depth) (from l.s l.at));
  few : l.n ≤ l.i;
  past : l.at ≤ l.i;
}

abbrev pub decreases-walk_list-loop-i : goal.decreases-walk_list-loop-i
decreases-walk_list-loop-i l = length l.s - l.i
