-- `form::walks::second_in` meets its contract. Assumes nothing.
use Rattle.form.specs.Walks.{second_in}
use Rattle.text.specs.Walking.{next_word}
use mathlib.Core.Path.{◌∙◌, ap}
use Rattle.form.proofs.walks.second_in.Goals as goal

pub returns : goal.returns
unfolding second_in
returns c = c.next_word.ensures ∙ ap (next_word c.args.line.now) c.first_in.ensures
