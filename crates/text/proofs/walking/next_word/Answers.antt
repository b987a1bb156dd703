-- `text::walking::next_word` meets its contract.
-- Assumes nothing.
use mathlib.Core.Path.{◌∙◌, ap}
use Rattle.text.specs.Walking.{next_word, past, word_end_at}
use Rattle.text.proofs.walking.next_word.Goals as goal

pub returns : goal.returns
unfolding next_word word_end_at
returns c = c.skip_byte.ensures ∙ ap (past 32 c.args.s.now) c.word_end.ensures
