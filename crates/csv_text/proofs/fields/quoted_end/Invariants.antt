-- `csv_text::fields::quoted_end` meets its contract. The loop's invariant: the field ends from the loop's place on where it ends at the start.
-- Assumes nothing.
use Prim.Native.Nat.{◌-◌}
use Rattle.csv_text.specs.Scanned.{quoted_end}
use Rattle.csv_text.specs.Fields.{quoted}
use lib.ListN.{drop, length}
use mathlib.Core.Bool.{false}
use mathlib.Core.Path.{◌≡◌}
use Rattle.csv_text.proofs.fields.quoted_end.Given as goal

abbrev pub invariant-loop-i : goal.invariant-loop-i
invariant-loop-i l = quoted_end l.i (quoted false (drop l.i l.s)) ≡ quoted_end l.at (quoted false (drop l.at l.s))

abbrev pub decreases-loop-i : goal.decreases-loop-i
decreases-loop-i l = length l.s - l.i
