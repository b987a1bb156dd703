-- `text::brackets::many_end` meets its contract. The loop's invariant: the items from the loop's place on end where those from the start
-- end. Assumes nothing.
use Prim.Native.Nat.{◌-◌}
use lib.ListN.{length}
use mathlib.Core.Path.{◌≡◌}
use Rattle.text.specs.Brackets.{many}
use Rattle.text.specs.CodeEnds.{word_end}
use Rattle.text.specs.Reader.{from}
use Rattle.text.proofs.brackets.many_end.Given as goal

abbrev pub invariant-loop-i : goal.invariant-loop-i
invariant-loop-i g l = word_end (many g.I.Item.reader (from l.s l.i)) ≡ word_end (many g.I.Item.reader (from l.s l.at))

abbrev pub decreases-loop-i : goal.decreases-loop-i
decreases-loop-i g l = length l.s - l.i
