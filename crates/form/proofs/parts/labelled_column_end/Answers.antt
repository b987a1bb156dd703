-- `form::parts::labelled_column_end` meets its contract.
-- Assumes nothing.
use mathlib.Core.Path.{◌∙◌}
use Rattle.form.proofs.FormForward.{forward_column_body}
use Rattle.form.specs.FormReader.{column_body, labelled_column}
use Rattle.text.proofs.EndLaws.{bracket_none, held_end, held_first, held_second, pair}
use Rattle.text.proofs.Forward.{forward_next, forward_word_that}
use Rattle.text.specs.Brackets.{next}
use Rattle.text.specs.Names.{is_name}
use Rattle.text.specs.Words.{name}
use Rattle.form.proofs.parts.labelled_column_end.Goals as goal

pub returns-in_err-a : goal.returns-in_err-a
unfolding labelled_column
returns-in_err-a c = let s = c.args.s.now in
    let at = c.args.at in
    c.from_residual.ensures ∙ bracket_none (pair column_body (next name) (λ c l. (c, l))) s at c.byte_end.ensures c.in_err-a.was

pub returns-in_err-e : goal.returns-in_err-e
unfolding labelled_column
returns-in_err-e c = let s = c.args.s.now in
    let at = c.args.at in
    c.from_residual-in_err-e.ensures ∙ held_first column_body (next name) (λ c l. (c, l)) forward_column_body s at c.byte_end.ensures c.in_ok-a.was c.column_body_end.ensures c.in_err-e.was

pub returns-in_err-f : goal.returns-in_err-f
unfolding labelled_column
returns-in_err-f c = let s = c.args.s.now in
    let at = c.args.at in
    c.from_residual-in_err-f.ensures ∙ held_second column_body (next name) (λ c l. (c, l)) forward_column_body s at c.byte_end.ensures c.in_ok-a.was c.column_body_end.ensures c.in_ok-e.was c.spaced_name_end.ensures c.in_err-f.was

pub returns : goal.returns
unfolding labelled_column
returns c = let s = c.args.s.now in
    let at = c.args.at in
    held_end column_body (next name) (λ c l. (c, l)) forward_column_body s at c.byte_end.ensures c.in_ok-a.was c.column_body_end.ensures c.in_ok-e.was c.spaced_name_end.ensures (forward_next name (forward_word_that is_name)) c.in_ok-f.was c.byte_end-2.ensures
