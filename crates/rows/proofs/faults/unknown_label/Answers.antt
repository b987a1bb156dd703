-- `rows::faults::unknown_label` meets its contract: the label in front goes before the brackets'. Assumes nothing.
use Rattle.document.specs.Lookup.{label_of}
use Rattle.document.specs.NameFaults.{bracket_labels, leading_name, row_labels}
use Rattle.form.specs.Form.{has_brackets, leads_label}
use Rattle.form.specs.Walks.{items_at}
use Rattle.lists.specs.Lists.{there}
use Rattle.relations.specs.Tables.{scheme_by}
use Rattle.stepping.specs.Places.{Near}
use Rattle.text.proofs.OffendingLaws.{missing_first, missing_second}
use Rattle.text.specs.CodeEnds.{offending_of}
use Rattle.text.specs.Words.{word_of}
use mathlib.Core.Bool.{cond}
use mathlib.Core.List.{[]}
use mathlib.Core.Path.{◌∙◌, ap, subst, sym}
use Rattle.rows.proofs.faults.unknown_label.Goals as goal

pub returns-in-Some : goal.returns-in-Some
unfolding row_labels
returns-in-Some c = let entry = c.args in (
  λ sets d l ls h. sym (missing_first (λ w. there (label_of d w))
      (word_of entry.line.now c.in-Some.p)
      (cond (leads_label (scheme_by entry.scheme l ls)) (leading_name (items_at entry.line.now entry.at)) [])
      (cond (has_brackets (scheme_by entry.scheme l ls)) (bracket_labels (items_at entry.line.now entry.at)) [])
      (sym (c.unknown_lead.ensures.0 sets d l ls h) ∙ ap (offending_of entry.line.now) c.in-Some.is)),
  subst (Near entry.line.now) c.in-Some.is c.unknown_lead.ensures.1,
)

pub returns-in-None : goal.returns-in-None
unfolding row_labels
returns-in-None c = let entry = c.args in (
  λ sets d l ls h. c.unknown_bracket.ensures.0 sets d l ls h ∙ sym (missing_second (λ w. there (label_of d w))
      (cond (leads_label (scheme_by entry.scheme l ls)) (leading_name (items_at entry.line.now entry.at)) [])
      (cond (has_brackets (scheme_by entry.scheme l ls)) (bracket_labels (items_at entry.line.now entry.at)) [])
      (sym (c.unknown_lead.ensures.0 sets d l ls h) ∙ ap (offending_of entry.line.now) c.in-None.is)),
  c.unknown_bracket.ensures.1,
)
