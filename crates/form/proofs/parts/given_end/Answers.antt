-- `form::parts::given_end` meets its contract.
-- Assumes nothing.
use mathlib.Core.Path.{◌∙◌}
use Rattle.form.specs.FormReader.{given_form}
use Rattle.text.proofs.EndLaws.{bracket_none, held_end, held_first, held_second, pair}
use Rattle.text.proofs.Forward.{forward_next, forward_word_that}
use Rattle.text.specs.Brackets.{next}
use Rattle.text.specs.Names.{is_name}
use Rattle.text.specs.Numbers.{is_value}
use Rattle.text.specs.Words.{name, value}
use Rattle.form.proofs.parts.given_end.Goals as goal

pub returns-in_err-a : goal.returns-in_err-a
unfolding given_form
returns-in_err-a c = let s = c.args.s.now in
    let at = c.args.at in
    c.from_residual.ensures ∙ bracket_none (pair name (next value) (λ a v. record { attribute = a; value = v })) s at c.byte_end.ensures c.in_err-a.was

pub returns-in_err-e : goal.returns-in_err-e
unfolding given_form
returns-in_err-e c = let s = c.args.s.now in
    let at = c.args.at in
    c.from_residual-in_err-e.ensures ∙ held_first name (next value) (λ a v. record { attribute = a; value = v }) (forward_word_that is_name) s at c.byte_end.ensures c.in_ok-a.was c.name_end.ensures c.in_err-e.was

pub returns-in_err-f : goal.returns-in_err-f
unfolding given_form
returns-in_err-f c = let s = c.args.s.now in
    let at = c.args.at in
    c.from_residual-in_err-f.ensures ∙ held_second name (next value) (λ a v. record { attribute = a; value = v }) (forward_word_that is_name) s at c.byte_end.ensures c.in_ok-a.was c.name_end.ensures c.in_ok-e.was c.spaced_value_end.ensures c.in_err-f.was

pub returns : goal.returns
unfolding given_form
returns c = let s = c.args.s.now in
    let at = c.args.at in
    held_end name (next value) (λ a v. record { attribute = a; value = v }) (forward_word_that is_name) s at c.byte_end.ensures c.in_ok-a.was c.name_end.ensures c.in_ok-e.was c.spaced_value_end.ensures (forward_next value (forward_word_that is_value)) c.in_ok-f.was c.byte_end-2.ensures
