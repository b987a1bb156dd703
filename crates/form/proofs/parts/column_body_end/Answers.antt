-- `form::parts::column_body_end` meets its contract.
-- Assumes nothing.
use mathlib.Core.Path.{◌∙◌, refl}
use Rattle.form.specs.FormReader.{column_body, column_kinds}
use Rattle.text.proofs.EndLaws.{pair_off, pair_on}
use Rattle.text.proofs.Forward.{forward_word_that}
use Rattle.text.specs.Brackets.{keyword, next}
use Rattle.text.specs.Names.{is_name}
use Rattle.text.specs.Words.{name}
use Rattle.form.proofs.parts.column_body_end.Goals as goal

pub returns-in_err-e : goal.returns-in_err-e
unfolding column_body
returns-in_err-e c = let s = c.args.s.now in
    let at = c.args.at in
    c.from_residual.ensures ∙ pair_off name (next (keyword column_kinds)) (λ c k. record { name = c; kind = k }) s at c.name_end.ensures c.in_err-e.was

pub returns : goal.returns
unfolding column_body
returns c = let s = c.args.s.now in
    let at = c.args.at in
    pair_on name (next (keyword column_kinds)) (λ c k. record { name = c; kind = k }) s at c.name_end.ensures (forward_word_that is_name) c.in_ok-e.was c.column_kind_end.ensures refl
