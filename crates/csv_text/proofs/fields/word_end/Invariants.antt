-- `csv_text::fields::word_end` meets its contract. The loop's invariant: the word from the loop's place on ends where the whole word ends. Assumes nothing.
use Prim.Native.Nat.{◌+◌}
use Rattle.text.specs.Words.{word_at}
use lib.ListN.{length}
use mathlib.Core.Path.{◌≡◌}
use Rattle.csv_text.proofs.fields.word_end.Given as goal

abbrev pub invariant-loop-i : goal.invariant-loop-i
invariant-loop-i l = l.i + length (word_at l.s l.i) ≡ l.at + length (word_at l.s l.at)
