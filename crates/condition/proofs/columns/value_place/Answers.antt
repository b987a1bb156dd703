-- `condition::columns::value_place` meets its contract. Assumes nothing.
use Rattle.condition.specs.Answers.{naming_by, value_at}
use Rattle.condition.specs.RefPlaces.{ref_end_at}
use Rattle.text.specs.Walking.{next_word, past}
use mathlib.Core.Path.{◌∙◌, ap, sym}
use Rattle.condition.proofs.columns.value_place.Goals as goal

pub returns-then-joined : goal.returns-then-joined
returns-then-joined c = let entry = c.args in
    let s = entry.s.now in
    c.skip_byte.ensures
    ∙ ap (past 32 s) (c.ref_close.ensures ∙ ap (ref_end_at s) c.next_word-name.ensures)
    ∙ ap (λ b. value_at (naming_by b) s entry.op) (sym c.if-joined.true)

pub returns : goal.returns
returns c = let entry = c.args in
    let s = entry.s.now in
    c.next_word.ensures ∙ ap (next_word s) c.next_word-name.ensures ∙ ap (λ b. value_at (naming_by b) s entry.op) (sym c.if-joined.false)
