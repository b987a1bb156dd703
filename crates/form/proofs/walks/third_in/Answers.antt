-- `form::walks::third_in` meets its contract. Assumes nothing.
use Rattle.form.specs.Walks.{third_in}
use Rattle.text.specs.Walking.{next_word}
use mathlib.Core.Path.{◌∙◌, ap}
use Rattle.form.proofs.walks.third_in.Goals as goal

pub returns : goal.returns
unfolding third_in
returns c = c.next_word.ensures ∙ ap (next_word c.args.line.now) c.second_in.ensures
