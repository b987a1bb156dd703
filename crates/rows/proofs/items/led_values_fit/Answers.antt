-- `rows::items::led_values_fit` meets its contract. Assumes nothing.
use Rattle.document.proofs.RowItems.{led_values}
use Rattle.document.specs.ValueFaults.{shaped_values}
use Rattle.form.specs.Walks.{items_at}
use Rattle.lists.specs.Lists.{holds_of}
use Rattle.rows.proofs.RowItems.{width_fits}
use Rattle.text.proofs.Spaces.{space_here}
use Rattle.text.specs.Walking.{word_end_at}
use mathlib.Core.Bool.{true}
use mathlib.Core.Path.{◌∙◌, ap, refl, sym}
use native.Mathlib.Omega.{arith}
use Rattle.rows.proofs.items.led_values_fit.Goals as goal

pub overflow_add-at : goal.overflow_add-at
overflow_add-at c = let entry = c.args in omega (arith, (space_here entry.line.now entry.at _ refl (c.leads.ensures.0 c.if-leads.true).0).1)

pub returns-then-leads : goal.returns-then-leads
unfolding word_end_at
returns-then-leads c = let entry = c.args in
    let s = entry.line.now in
    let at = entry.at in
    let l = c.leads.ensures.0 c.if-leads.true in
    c.values_fit.ensures
    ∙ ap (λ j. width_fits entry.width (shaped_values entry.bracketed (items_at s j))) c.word_end.ensures
    ∙ ap (width_fits entry.width) (sym (led_values s at l.0 l.1 true l.2 (shaped_values entry.bracketed)))

pub returns : goal.returns
unfolding holds_of
returns c = let entry = c.args in sym (ap (width_fits entry.width) ((c.leads.ensures.1 c.if-leads.false).1 (shaped_values entry.bracketed)))
