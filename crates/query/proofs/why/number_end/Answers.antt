-- `query::why::number_end` meets its contract: a number is a word that spells one. Assumes nothing.
use Rattle.lists.specs.Lists.{there}
use Rattle.text.proofs.CodeLaws.{number_at, number_nothing}
use Rattle.text.proofs.WordLaws.{word_read, word_refused}
use Rattle.text.specs.Numbers.{is_number}
use Rattle.std.specs.Prelude.{Some}
use mathlib.Core.Path.{◌∙◌, ap, sym}
use Rattle.query.proofs.why.number_end.Goals as goal

pub returns : goal.returns
unfolding is_number there
returns c = let entry = c.args in
    let s = entry.s.now in
    let at = entry.at in
    let w = number_at s at _ _ (sym c.read_number.ensures ∙ c.in_ok-e.was) in
    rw (word_read s at is_number (ap there w.0)) (ap Some w.1)

pub returns-in_err-e : goal.returns-in_err-e
unfolding is_number there
returns-in_err-e c = let entry = c.args in
    let s = entry.s.now in
    let at = entry.at in
    rw c.from_residual.ensures (rw (word_refused s at is_number (ap there (number_nothing s at (sym c.read_number.ensures ∙ c.in_err-e.was)))))
