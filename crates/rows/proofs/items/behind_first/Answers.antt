-- `rows::items::behind_first` meets its contract. Assumes nothing.
use Rattle.document.proofs.RowItems.{no_values_behind}
use Rattle.document.specs.ValueFaults.{shaped_values}
use Rattle.rows.proofs.RowItems.{behind_values}
use Rattle.rows.specs.RowWords.{values_at}
use Rattle.text.proofs.Spaces.{space_here}
use mathlib.Core.Option.{none-ne-some}
use mathlib.Core.Path.{◌∙◌, ap, sym}
use native.Mathlib.Omega.{arith}
use Rattle.rows.proofs.items.behind_first.Goals as goal

pub overflow_add-at : goal.overflow_add-at
overflow_add-at c = let entry = c.args in omega (arith, (space_here entry.line.now entry.at _ c.byte_at.ensures c.if-byte_at-eq32.true).1)

pub returns-then-byte_at-eq32 : goal.returns-then-byte_at-eq32
returns-then-byte_at-eq32 c = let entry = c.args in
    let s = entry.line.now in
    λ b ws h. ap (values_at s) c.item_end_at.ensures ∙ behind_values s entry.at (sym c.byte_at.ensures ∙ c.if-byte_at-eq32.true) b ws h

pub returns : goal.returns
returns c = let entry = c.args in
    let s = entry.line.now in
    λ b ws h. absurd (none-ne-some _ (sym (no_values_behind s entry.at (shaped_values b) (λ z. c.if-byte_at-eq32.false (c.byte_at.ensures ∙ z))) ∙ h))
