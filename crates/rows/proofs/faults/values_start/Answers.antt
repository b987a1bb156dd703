-- `rows::faults::values_start` meets its contract: behind the label, where the row leads with one. Assumes nothing.
use Rattle.document.proofs.RowItems.{values_by}
use Rattle.form.specs.Form.{has_brackets}
use Rattle.form.specs.Walks.{items_at}
use Rattle.relations.specs.Tables.{scheme_by}
use Rattle.rows.proofs.RowItems.{shaped_at}
use mathlib.Core.Path.{◌∙◌, refl, sym}
use Rattle.rows.proofs.faults.values_start.Goals as goal

pub returns-then-leads_label : goal.returns-then-leads_label
returns-then-leads_label c = let entry = c.args in λ l ls ws h. c.behind_first.ensures (has_brackets (scheme_by entry.scheme l ls)) ws
    (sym (values_by (scheme_by entry.scheme l ls) (sym (c.leads_label.ensures l ls) ∙ c.if-leads_label.true) refl (items_at entry.line.now entry.at)) ∙ h)

pub returns : goal.returns
returns c = let entry = c.args in λ l ls ws h. shaped_at (has_brackets (scheme_by entry.scheme l ls))
    entry.line.now entry.at ws
    (sym (values_by (scheme_by entry.scheme l ls) (sym (c.leads_label.ensures l ls) ∙ c.if-leads_label.false) refl (items_at entry.line.now entry.at)) ∙ h)
