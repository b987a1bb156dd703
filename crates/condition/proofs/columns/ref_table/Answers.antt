-- `condition::columns::ref_table` meets its contract. Assumes nothing.
use Rattle.condition.specs.RefPlaces.{ref_table}
use Rattle.text.specs.Walking.{next_word}
use mathlib.Core.Path.{◌∙◌, ap}
use Rattle.condition.proofs.columns.ref_table.Goals as goal

pub returns : goal.returns
unfolding ref_table
returns c = c.next_word.ensures ∙ ap (next_word c.args.s.now) c.skip_byte.ensures
