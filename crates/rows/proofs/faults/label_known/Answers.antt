-- `rows::faults::label_known` meets its contract. Assumes nothing.
use mathlib.Core.Path.{◌∙◌, ap, sym}
use Rattle.document.specs.Lookup.{label_of}
use Rattle.stepping.proofs.FoundLaws.{is_some_there}
use Rattle.lists.specs.Lists.{there}
use Rattle.text.specs.Words.{word_of}
use Rattle.rows.proofs.RowChecks.{bracket_known, plain_known}
use Rattle.rows.proofs.faults.label_known.Goals as goal

pub returns-then-not-is_labelled : goal.returns-then-not-is_labelled
returns-then-not-is_labelled c = let entry = c.args in
    let s = entry.line.now in
    let at = entry.at in
    λ sets d h. plain_known (λ w. there (label_of d w)) s at (sym c.is_labelled.ensures ∙ c.if-not-is_labelled.true)

pub returns : goal.returns
unfolding label_of
returns c = let entry = c.args in
    let s = entry.line.now in
    let at = entry.at in
    λ sets d h.
    bracket_known (λ w. there (label_of d w)) s at (sym c.is_labelled.ensures ∙ c.if-not-is_labelled.false) c.is_some.result
    (ap (λ p. there (label_of d (word_of s p))) (sym c.cell_label.ensures) ∙ ap there (sym (c.find_label.ensures.0 sets d.labels h)) ∙ sym (c.is_some.ensures ∙ is_some_there c.find_label.result))
