-- `workspace::hashes::hash_word` meets its contract. The loop's invariant: the word from the loop's place on ends where the whole word ends,
-- and what is hashed already with it has the whole word's hash. Assumes nothing.
use Prim.Native.Nat.{◌+◌, ◌-◌, ◌<◌}
use lib.ListN.{length}
use mathlib.Core.Path.{◌≡◌}
use Rattle.workspace.specs.Hash.{hash_by, hash_of, slots}
use Rattle.text.specs.Words.{word_at}
use Rattle.workspace.proofs.hashes.hash_word.Given as goal

abbrev pub invariant-loop-h : goal.invariant-loop-h
invariant-loop-h l = (l.i + length (word_at l.s l.i) ≡ l.at + length (word_at l.s l.at)) × (hash_by 105 slots l.h (word_at l.s l.i) ≡ hash_of (word_at l.s l.at)) × (l.h < slots)

abbrev pub decreases-loop-h : goal.decreases-loop-h
decreases-loop-h l = length l.s - l.i
