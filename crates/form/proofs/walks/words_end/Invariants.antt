-- `form::walks::words_end` meets its contract. The loop's invariant: the words from the loop's place on end where those from the start end.
-- Assumes nothing.
use Prim.Native.Nat.{◌-◌}
use lib.ListN.{length}
use mathlib.Core.Path.{◌≡◌}
use Rattle.form.specs.Walks.{list_end_at}
use Rattle.text.specs.Walking.{word_end_at}
use Rattle.form.proofs.walks.words_end.Given as goal

abbrev pub invariant-loop-j : goal.invariant-loop-j
invariant-loop-j l = list_end_at word_end_at l.line l.j ≡ list_end_at word_end_at l.line l.at

abbrev pub decreases-loop-j : goal.decreases-loop-j
decreases-loop-j l = length l.line - l.j
