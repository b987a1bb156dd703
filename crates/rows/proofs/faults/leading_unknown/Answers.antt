-- `rows::faults::leading_unknown` meets its contract. Assumes nothing.
use Prim.Native.Nat.{◌+◌}
use mathlib.Core.Bool.{false, true}
use mathlib.Core.Path.{◌∙◌, ap, refl, sym}
use native.Mathlib.Omega.{arith}
use Rattle.document.proofs.RowItems.{led_name}
use Rattle.document.specs.Lookup.{label_of}
use Rattle.stepping.proofs.FoundLaws.{is_some_there}
use Rattle.lists.specs.Lists.{there}
use Rattle.text.proofs.OffendingLaws.{missing_nil}
use Rattle.text.proofs.Spaces.{space_here}
use Rattle.text.specs.Offending.{missing, unless}
use Rattle.text.specs.Words.{word_of}
use Rattle.rows.proofs.RowChecks.{one_missing}
use Rattle.rows.proofs.faults.leading_unknown.Goals as goal

pub returns-then-not-leads : goal.returns-then-not-leads
returns-then-not-leads c = (λ sets d h. sym (ap (missing (λ w. there (label_of d w))) (c.leads.ensures.1 c.if-not-leads.true).0 ∙ missing_nil (λ w. there (label_of d w))), tt)

pub overflow_add-at : goal.overflow_add-at
overflow_add-at c = let entry = c.args in omega (arith, (space_here entry.line.now entry.at _ refl (c.leads.ensures.0 c.if-not-leads.false).0).1)

pub overflow_add-result : goal.overflow_add-result
overflow_add-result c = let entry = c.args in omega (
  arith,
  (space_here entry.line.now
      entry.at _ refl
      (c.leads.ensures.0 c.if-not-leads.false).0).1,
)

pub returns-then-is_some : goal.returns-then-is_some
unfolding label_of unless
returns-then-is_some c = let entry = c.args in
    let s = entry.line.now in
    let at = entry.at in
    let l = c.leads.ensures.0 c.if-not-leads.false in (
      (λ sets d h. sym
          (ap (missing (λ w. there (label_of d w))) (led_name s at l.0 l.1 true l.2)
          ∙ one_missing (λ w. there (label_of d w)) (word_of s (at + 1)) true
          (ap there (sym (c.find_label.ensures.0 sets d.labels h)) ∙ sym (c.is_some.ensures ∙ is_some_there c.find_label.result) ∙ c.if-is_some.true))),
      tt,
    )

pub returns : goal.returns
unfolding label_of unless
returns c = let entry = c.args in
    let s = entry.line.now in
    let at = entry.at in
    let l = c.leads.ensures.0 c.if-not-leads.false in (
      (λ sets d h. sym
          (ap (missing (λ w. there (label_of d w))) (led_name s at l.0 l.1 true l.2)
          ∙ one_missing (λ w. there (label_of d w)) (word_of s (at + 1)) false
          (ap there (sym (c.find_label.ensures.0 sets d.labels h)) ∙ sym (c.is_some.ensures ∙ is_some_there c.find_label.result) ∙ c.if-is_some.false))),
      omega (arith, (space_here s at _ refl l.0).1),
    )
