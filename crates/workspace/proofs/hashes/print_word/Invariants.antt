-- `workspace::hashes::print_word` meets its contract. The loop's invariant: the word from the loop's place on ends where the whole word ends,
-- and what is hashed already with it has the whole word's print. Assumes nothing.
use Prim.Native.Nat.{◌+◌, ◌-◌, ◌<◌}
use lib.ListN.{length}
use mathlib.Core.Path.{◌≡◌}
use Rattle.workspace.specs.Hash.{hash_by, print_of, prints}
use Rattle.text.specs.Words.{word_at}
use Rattle.workspace.proofs.hashes.print_word.Given as goal

abbrev pub invariant-loop-h : goal.invariant-loop-h
invariant-loop-h l = (l.i + length (word_at l.s l.i) ≡ l.at + length (word_at l.s l.at)) × (hash_by 2654435761 prints l.h (word_at l.s l.i) ≡ print_of (word_at l.s l.at)) × (l.h < prints)

abbrev pub decreases-loop-h : goal.decreases-loop-h
decreases-loop-h l = length l.s - l.i
