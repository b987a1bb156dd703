-- `text::numbers::read_digits` meets its contract. The loop's invariant: the answer for the digits that are left, behind a part that spells
-- n, is the answer for the whole word. Assumes nothing.
use Prim.Native.Nat.{◌-◌}
use lib.ListN.{length}
use mathlib.Core.Path.{◌≡◌}
use Rattle.text.proofs.CodeLaws.{digits_end}
use Rattle.text.proofs.numbers.read_digits.Given as goal

abbrev pub invariant-loop-at : goal.invariant-loop-at
invariant-loop-at l = digits_end l.s l.i l.n ≡ digits_end l.s l.at 0

abbrev pub decreases-loop-at : goal.decreases-loop-at
decreases-loop-at l = length l.s - l.i
