-- `walks::cells::existing_end` meets its contract. Assumes nothing.
use mathlib.Core.Path.{◌∙◌, ap, sym}
use Rattle.std.specs.Prelude.{Option, Some, ℕ}
use Rattle.walks.proofs.Typed.{typed_date}
use Rattle.walks.specs.Walked.{existing_end}
use Rattle.walks.proofs.cells.existing_end.Goals as goal

pub returns-in_err-e : goal.returns-in_err-e
returns-in_err-e c = let a = c.args in
    c.from_residual.ensures ∙ ap existing_end (sym c.in_err-e.was ∙ c.read_date.ensures) ∙ typed_date a.line.now a.at

pub returns-in_err-rank : goal.returns-in_err-rank
returns-in_err-rank c = let a = c.args in
    c.from_residual-in_err-rank.ensures
    ∙ ap (λ (o : Option ℕ). existing_end (Some (c.in_ok-e.e, o))) (sym c.in_err-rank.was)
    ∙ ap existing_end (sym c.in_ok-e.was ∙ c.read_date.ensures) ∙ typed_date a.line.now a.at

pub returns : goal.returns
returns c = let a = c.args in
    ap (λ (o : Option ℕ). existing_end (Some (c.in_ok-e.e, o))) (sym c.in_ok-rank.was)
    ∙ ap existing_end (sym c.in_ok-e.was ∙ c.read_date.ensures) ∙ typed_date a.line.now a.at
