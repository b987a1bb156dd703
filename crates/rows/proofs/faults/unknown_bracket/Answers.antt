-- `rows::faults::unknown_bracket` meets its contract: the brackets' labels, where there are such. Assumes nothing.
use Rattle.document.specs.Lookup.{label_of}
use Rattle.document.specs.NameFaults.{bracket_labels}
use Rattle.form.specs.Walks.{items_at}
use Rattle.lists.specs.Lists.{there}
use Rattle.text.proofs.OffendingLaws.{missing_nil}
use Rattle.text.specs.Offending.{missing}
use mathlib.Core.Bool.{cond}
use mathlib.Core.List.{[]}
use mathlib.Core.Path.{◌∙◌, ap, sym}
use Rattle.rows.proofs.faults.unknown_bracket.Goals as goal

pub returns-then-has_brackets : goal.returns-then-has_brackets
returns-then-has_brackets c = let entry = c.args in (
  λ sets d l ls h. c.first_unknown_label.ensures.0 sets d h ∙ sym (ap
      (λ b. missing (λ w. there (label_of d w)) (cond b (bracket_labels (items_at entry.line.now entry.at)) []))
      (sym (c.has_brackets.ensures l ls) ∙ c.if-has_brackets.true)),
  c.first_unknown_label.ensures.1,
)

pub returns : goal.returns
returns c = let entry = c.args in (
  λ sets d l ls h. sym
      (ap (λ b. missing (λ w. there (label_of d w)) (cond b (bracket_labels (items_at entry.line.now entry.at)) [])) (sym (c.has_brackets.ensures l ls) ∙ c.if-has_brackets.false) ∙ missing_nil (λ w. there (label_of d w))),
  tt,
)
