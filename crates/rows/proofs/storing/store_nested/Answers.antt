-- `rows::storing::store_nested` meets its contract: its first item is a name, and the others are brackets. Assumes nothing.
use Rattle.document.specs.Lookup.{label_of}
use Rattle.document.specs.ValueFaults.{bracket_values}
use Rattle.lists.specs.Lists.{or_zero}
use Rattle.rows.proofs.RowStored.{nested_stored}
use Rattle.rows.proofs.StoredItems.{leading_space}
use Rattle.text.proofs.Spaces.{space_here}
use mathlib.Core.List.{[], ◌∷◌}
use mathlib.Core.Path.{◌∙◌, ap, sym}
use native.Mathlib.Omega.{arith}
use Rattle.rows.proofs.storing.store_nested.Goals as goal

pub overflow_add-w : goal.overflow_add-w
overflow_add-w c = let entry = c.args in omega (arith, (space_here entry.line.now entry.is _ c.byte_at.ensures c.if-byte_at-eq32.true).1)

pub returns-then-byte_at-eq32 : goal.returns-then-byte_at-eq32
unfolding label_of
returns-then-byte_at-eq32 c d sets rs ws l L N small h few = let a = c.args in
    nested_stored a.line.now a.is rs ws N small few d _ _ h
    (sym c.byte_at.ensures ∙ c.if-byte_at-eq32.true)
    (c.number-label.ensures ∙ ap or_zero (c.find_label.ensures.0 sets _ L))
    c.set_label.ensures c.word_end-e.ensures
    (λ short e. c.store_cells-n.ensures d sets (c.number-label.result ∷ []) l L small short e) c.one_more.ensures (c.add_row.ensures a.text.now)

pub returns-else-byte_at-eq32 : goal.returns-else-byte_at-eq32
returns-else-byte_at-eq32 c d sets rs ws l L N small h few = let entry = c.args in absurd (leading_space bracket_values entry.line.now entry.is ws h (λ e. c.if-byte_at-eq32.false (c.byte_at.ensures ∙ e)))
