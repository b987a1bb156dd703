-- `csv_text::fields::plain_end` meets its contract. The loop's invariant: the plain bytes from the loop's place on end where all of them end. Assumes nothing.
use Prim.Native.Nat.{◌+◌}
use Rattle.csv_text.specs.Fields.{plain_bytes}
use lib.ListN.{drop, length}
use mathlib.Core.Path.{◌≡◌}
use Rattle.csv_text.proofs.fields.plain_end.Given as goal

abbrev pub invariant-loop-i : goal.invariant-loop-i
invariant-loop-i l = l.i + length (plain_bytes (drop l.i l.s)) ≡ l.at + length (plain_bytes (drop l.at l.s))
