-- `form::parts::column_end` meets its contract.
-- Assumes nothing.
use mathlib.Core.Path.{◌∙◌, sym}
use Rattle.form.proofs.FormForward.{forward_column_body}
use Rattle.form.specs.FormReader.{column, column_body}
use Rattle.text.proofs.EndLaws.{bracket_end, bracket_none, bracket_wrong}
use Rattle.form.proofs.parts.column_end.Goals as goal

pub returns-in_err-a : goal.returns-in_err-a
unfolding column
returns-in_err-a c = let s = c.args.s.now in
    let at = c.args.at in
    c.from_residual.ensures ∙ bracket_none column_body s at c.byte_end.ensures c.in_err-a.was

pub returns-in_err-e : goal.returns-in_err-e
unfolding column
returns-in_err-e c = let s = c.args.s.now in
    let at = c.args.at in
    c.from_residual-in_err-e.ensures ∙ bracket_wrong column_body s at c.byte_end.ensures c.in_ok-a.was (sym c.in_err-e.was ∙ c.column_body_end.ensures)

pub returns : goal.returns
unfolding column
returns c = let s = c.args.s.now in
    let at = c.args.at in
    bracket_end column_body s at c.byte_end.ensures forward_column_body c.in_ok-a.was (sym c.in_ok-e.was ∙ c.column_body_end.ensures) c.byte_end-2.ensures
