-- `form::walks::deny_place` meets its contract: each step of the walk is one of the definition. Assumes nothing.
use mathlib.Core.Path.{◌∙◌, ap}
use Rattle.form.specs.Walks.{allow_place, deny_place, first_in, list_end_at}
use Rattle.text.specs.Walking.{past, word_end_at}
use Rattle.form.proofs.walks.deny_place.Goals as goal

pub returns : goal.returns
unfolding deny_place allow_place word_end_at
returns c = let s = c.args.line.now in
    c.word_end.ensures
    ∙ ap (word_end_at s) (c.first_in-2.ensures
    ∙ ap (first_in s) (c.skip_byte-deny.ensures
    ∙ ap (past 32 s) (c.skip_byte-allowed.ensures
    ∙ ap (past 41 s) (c.words_end.ensures
    ∙ ap (list_end_at word_end_at s) (c.word_end-allow.ensures
    ∙ ap (word_end_at s) (c.first_in.ensures ∙ ap (first_in s) c.next_word.ensures))))))
