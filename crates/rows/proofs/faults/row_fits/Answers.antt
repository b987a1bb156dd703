-- `rows::faults::row_fits` meets its contract, by the two marks of the scheme. Assumes nothing.
use Rattle.document.proofs.RowItems.{values_by}
use Rattle.form.specs.Walks.{items_at}
use Rattle.relations.specs.Tables.{scheme_by}
use Rattle.rows.proofs.RowItems.{width_fits}
use mathlib.Core.Path.{◌∙◌, ap, sym}
use Rattle.rows.proofs.faults.row_fits.Goals as goal

pub returns-then-leads_label : goal.returns-then-leads_label
returns-then-leads_label c = let entry = c.args in λ l ls. c.led_values_fit.ensures ∙ sym (ap (width_fits entry.width) (values_by
    (scheme_by entry.scheme l ls)
    (sym (c.leads_label.ensures l ls) ∙ c.if-leads_label.true) (sym (c.has_brackets-bracketed.ensures l ls))
    (items_at entry.line.now entry.at)))

pub returns : goal.returns
returns c = let entry = c.args in λ l ls. c.values_fit.ensures ∙ sym (ap (width_fits entry.width) (values_by
    (scheme_by entry.scheme l ls)
    (sym (c.leads_label.ensures l ls) ∙ c.if-leads_label.false) (sym (c.has_brackets-bracketed.ensures l ls))
    (items_at entry.line.now entry.at)))
