-- `rows::faults::unknown_lead` meets its contract: the label in front, where there is one. Assumes nothing.
use Rattle.document.specs.Lookup.{label_of}
use Rattle.document.specs.NameFaults.{leading_name}
use Rattle.form.specs.Walks.{items_at}
use Rattle.lists.specs.Lists.{there}
use Rattle.text.proofs.OffendingLaws.{missing_nil}
use Rattle.text.specs.Offending.{missing}
use mathlib.Core.Bool.{cond}
use mathlib.Core.List.{[]}
use mathlib.Core.Path.{◌∙◌, ap, sym}
use Rattle.rows.proofs.faults.unknown_lead.Goals as goal

pub returns-then-leads_label : goal.returns-then-leads_label
returns-then-leads_label c = let entry = c.args in (
  λ sets d l ls h. c.leading_unknown.ensures.0 sets d h ∙ sym (ap
      (λ b. missing (λ w. there (label_of d w)) (cond b (leading_name (items_at entry.line.now entry.at)) []))
      (sym (c.leads_label.ensures l ls) ∙ c.if-leads_label.true)),
  c.leading_unknown.ensures.1,
)

pub returns : goal.returns
returns c = let entry = c.args in (
  λ sets d l ls h. sym
      (ap (λ b. missing (λ w. there (label_of d w)) (cond b (leading_name (items_at entry.line.now entry.at)) [])) (sym (c.leads_label.ensures l ls) ∙ c.if-leads_label.false) ∙ missing_nil (λ w. there (label_of d w))),
  tt,
)
