-- `text::words::value_end` meets its contract: the word is a name, or else a number, or else neither.
-- Assumes nothing.
use mathlib.Core.Path.{◌∙◌, ap, sym}
use Rattle.text.proofs.ByteLaws.{name_value}
use Rattle.text.proofs.CodeLaws.{number_at, number_nothing, word_at_lem, word_nothing}
use Rattle.text.proofs.NumberLaws.{value_neither, value_number}
use Rattle.text.proofs.WordLaws.{word_read, word_refused}
use Rattle.text.specs.Names.{is_name}
use Rattle.text.specs.Numbers.{is_value}
use Rattle.text.specs.Words.{word_at}
use Rattle.std.specs.Prelude.{Some}
use Rattle.text.proofs.words.value_end.Goals as goal

pub returns-in-Some : goal.returns-in-Some
returns-in-Some c = let s = c.args.s.now in
    let at = c.args.at in
    let w = word_at_lem s at is_name c.in-Some.e (sym c.name_end.ensures ∙ c.in-Some.is) in
    rw (word_read s at is_value (name_value (word_at s at) w.0)) (ap Some w.1)

pub returns : goal.returns
returns c = let s = c.args.s.now in
    let at = c.args.at in
    let w = number_at s at _ _ (sym c.read_number.ensures ∙ c.in_ok-e.was) in
    rw (word_read s at is_value (value_number (word_at s at) _ w.0)) (ap Some w.1)

pub returns-in_err-e : goal.returns-in_err-e
returns-in_err-e c = let s = c.args.s.now in
    let at = c.args.at in
    let n = word_nothing s at is_name (sym c.name_end.ensures ∙ c.in_default.is) in
    let k = number_nothing s at (sym c.read_number.ensures ∙ c.in_err-e.was) in
    c.from_residual.ensures ∙ rw (word_refused s at is_value (value_neither (word_at s at) n k))
