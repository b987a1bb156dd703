-- `form::walks::triple_end` meets its contract. Assumes nothing.
use Rattle.form.specs.Walks.{triple_end_at}
use Rattle.text.specs.Walking.{past, word_end_at}
use mathlib.Core.Path.{◌∙◌, ap}
use Rattle.form.proofs.walks.triple_end.Goals as goal

pub returns : goal.returns
unfolding triple_end_at word_end_at
returns c = c.skip_byte.ensures ∙ ap (past 41 c.args.line.now) (c.word_end.ensures ∙ ap (word_end_at c.args.line.now) c.third_in-last.ensures)
