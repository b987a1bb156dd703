-- `judging::types::is_missing_date` meets its contract. Assumes nothing.
use Rattle.judging.proofs.DateLaws.{missing_there, other_there, ranked_there}
use Rattle.std.specs.Prelude.{Some}
use mathlib.Core.Path.{◌∙◌, ap, sym}
use Rattle.judging.proofs.types.is_missing_date.Goals as goal

pub returns-in-Some-default-Some : goal.returns-in-Some-default-Some
returns-in-Some-default-Some c = let a = c.args in
    let p = c.in-Some-default-Some in
    sym (ranked_there a.query.now a.at _ _ (sym c.read_date.ensures ∙ p.is ∙ ap (λ x. Some (p.field-0-0, x)) p.field-0-1-is))

pub returns-in-Some-default-None : goal.returns-in-Some-default-None
returns-in-Some-default-None c = let a = c.args in
    let p = c.in-Some-default-None in
    sym (missing_there a.query.now a.at _ (sym c.read_date.ensures ∙ p.is ∙ ap (λ x. Some (p.field-0-0, x)) p.field-0-1-is))

pub returns-in-None : goal.returns-in-None
returns-in-None c = let a = c.args in sym (other_there a.query.now a.at (sym c.read_date.ensures ∙ c.in-None.is))
