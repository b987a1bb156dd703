-- `condition::columns::ref_close` meets its contract. Assumes nothing.
use Rattle.condition.specs.RefPlaces.{ref_column, ref_end_at}
use Rattle.text.specs.Walking.{next_word, past, word_end_at}
use mathlib.Core.Path.{◌∙◌, ap}
use Rattle.condition.proofs.columns.ref_close.Goals as goal

pub returns : goal.returns
unfolding ref_end_at ref_column word_end_at
returns c = let s = c.args.s.now in
    let column = c.next_word-column.ensures ∙ ap (next_word s) c.ref_table.ensures in
    c.skip_byte.ensures ∙ ap (past 41 s) (c.word_end.ensures ∙ ap (word_end_at s) column)
