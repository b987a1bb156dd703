-- `text::words::closing_end` meets its contract. The loop's invariant: the bytes from the loop's place to the bracket end where those from
-- the start do. Assumes nothing.
use Prim.Native.Nat.{◌+◌}
use lib.ListN.{drop, length}
use mathlib.Core.Path.{◌≡◌}
use Rattle.text.specs.Words.{to_closing}
use Rattle.text.proofs.words.closing_end.Given as goal

abbrev pub invariant-loop-i : goal.invariant-loop-i
invariant-loop-i l = l.i + length (to_closing (drop l.i l.s)) ≡ l.at + length (to_closing (drop l.at l.s))
