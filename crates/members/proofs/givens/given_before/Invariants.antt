-- `members::givens::given_before` meets its contract. The loop's invariant: the name is among those left of the first n exactly when it is
-- among all of them. Assumes nothing.
use Prim.Native.Nat.{◌-◌, ◌≤◌}
use lib.ListN.{take}
use mathlib.Core.Path.{◌≡◌}
use Rattle.members.proofs.GivenLaws.{given_names}
use Rattle.lists.specs.Lists.{any_of}
use Rattle.text.proofs.OffendingLaws.{same_word}
use Rattle.text.specs.Words.{word_of}
use Rattle.members.proofs.givens.given_before.Given as goal

abbrev pub invariant-loop-i : goal.invariant-loop-i
invariant-loop-i l = (l.i ≤ l.n) × (any_of (same_word (word_of l.line l.w)) (take (l.n - l.i) (given_names l.line l.j)) ≡ any_of (same_word (word_of l.line l.w)) (take l.n (given_names l.line l.gs)))
