-- `text::words::is_word` meets its contract. The loop's invariant: what is left of the word and of the name are the same exactly when
-- the whole is. Assumes nothing.
use lib.ListN.{drop}
use mathlib.Core.Path.{◌≡◌}
use Rattle.text.specs.Names.{same_name}
use Rattle.text.specs.Words.{word_at}
use Rattle.text.proofs.words.is_word.Given as goal

abbrev pub invariant-loop-k : goal.invariant-loop-k
invariant-loop-k l = same_name (word_at l.s l.x) (drop l.k l.w) ≡ same_name (word_at l.s l.at) l.w
