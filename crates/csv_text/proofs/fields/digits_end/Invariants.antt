-- `csv_text::fields::digits_end` meets its contract. The loop's invariant: the digits from the loop's place on end where all of them end. Assumes nothing.
use Prim.Native.Nat.{◌+◌}
use Rattle.csv_text.specs.Scanned.{digit_bytes}
use lib.ListN.{drop, length}
use mathlib.Core.Path.{◌≡◌}
use Rattle.csv_text.proofs.fields.digits_end.Given as goal

abbrev pub invariant-loop-i : goal.invariant-loop-i
invariant-loop-i l = l.i + length (digit_bytes (drop l.i l.s)) ≡ l.at + length (digit_bytes (drop l.at l.s))
