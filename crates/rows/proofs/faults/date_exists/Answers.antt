-- `rows::faults::date_exists` meets its contract: a date by its rank, and any other value has nothing to fail. Assumes nothing.
use Rattle.std.specs.Prelude.{Some}
use mathlib.Core.Path.{◌∙◌, ap, sym}
use Rattle.rows.proofs.RowTypes.{date_none, date_real, date_unreal}
use Rattle.rows.proofs.faults.date_exists.Goals as goal

pub returns-in-Some-default-Some : goal.returns-in-Some-default-Some
returns-in-Some-default-Some c = let a = c.args in
    let p = c.in-Some-default-Some in
    sym (date_real a.line.now a.at _ _ (sym c.read_date.ensures ∙ p.is ∙ ap (λ x. Some (p.field-0-0, x)) p.field-0-1-is))

pub returns-in-Some-default-None : goal.returns-in-Some-default-None
returns-in-Some-default-None c = let a = c.args in
    let p = c.in-Some-default-None in
    sym (date_unreal a.line.now a.at _ (sym c.read_date.ensures ∙ p.is ∙ ap (λ x. Some (p.field-0-0, x)) p.field-0-1-is))

pub returns-in-None : goal.returns-in-None
returns-in-None c = let a = c.args in sym (date_none a.line.now a.at (sym c.read_date.ensures ∙ c.in-None.is))
