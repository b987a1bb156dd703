-- `rows::storing::store_row` meets its contract, by the two marks of the table's scheme. Assumes nothing.
use Rattle.document.specs.Lookup.{table_of}
use Rattle.document.specs.ValueFaults.{shaped_values}
use Rattle.form.specs.Walks.{items_at}
use Rattle.lists.specs.Lists.{or_zero}
use Rattle.rows.proofs.RowStored.{led_alone, shape_stored}
use Rattle.text.specs.Words.{word_of}
use mathlib.Core.Path.{◌∙◌, ap, sym}
use Rattle.rows.proofs.storing.store_row.Goals as goal

pub returns-then-bracketed : goal.returns-then-bracketed
unfolding shaped_values table_of
returns-then-bracketed c d sets l L T N ok = let a = c.args in
    shape_stored d a.line.now (word_of a.line.now a.t) (items_at a.line.now a.is) T N ok
    c.number-table.result
    c.table_scheme-scheme.result
    (c.number-table.ensures ∙ ap or_zero (c.find_table.ensures.0 _ T))
    c.table_scheme-scheme.ensures
    (λ m ms. sym (c.leads_label.ensures m ms) ∙ c.if-leads_label.true)
    (λ m ms. sym (c.has_brackets-bracketed.ensures m ms) ∙ c.if-bracketed.true)
    (λ ws small v few. c.store_nested.ensures d.policy sets d.rows ws l L N small v few)

pub returns-else-bracketed : goal.returns-else-bracketed
unfolding shaped_values table_of
returns-else-bracketed c d sets l L T N ok = let a = c.args in
    shape_stored d a.line.now (word_of a.line.now a.t) (items_at a.line.now a.is) T N ok
    c.number-table.result
    c.table_scheme-scheme.result
    (c.number-table.ensures ∙ ap or_zero (c.find_table.ensures.0 _ T))
    c.table_scheme-scheme.ensures
    (λ m ms. sym (c.leads_label.ensures m ms) ∙ c.if-leads_label.true)
    (λ m ms. sym (c.has_brackets-bracketed.ensures m ms) ∙ c.if-bracketed.false)
    (λ ws small v few. led_alone a.k c.number-table.result d (items_at a.line.now a.is) ws (c.store_by_row.ensures d.policy sets d.rows ws l L N small v few))

pub returns-then-bracketed-2 : goal.returns-then-bracketed-2
unfolding shaped_values table_of
returns-then-bracketed-2 c d sets l L T N ok = let a = c.args in
    shape_stored d a.line.now (word_of a.line.now a.t) (items_at a.line.now a.is) T N ok
    c.number-table.result
    c.table_scheme-scheme.result
    (c.number-table.ensures ∙ ap or_zero (c.find_table.ensures.0 _ T))
    c.table_scheme-scheme.ensures
    (λ m ms. sym (c.leads_label.ensures m ms) ∙ c.if-leads_label.false)
    (λ m ms. sym (c.has_brackets-bracketed.ensures m ms) ∙ c.if-bracketed-2.true)
    (λ ws small v few. c.store_by_cell.ensures d.policy sets d.rows ws l L N small v few)

pub returns-else-bracketed-2 : goal.returns-else-bracketed-2
unfolding shaped_values table_of
returns-else-bracketed-2 c d sets l L T N ok = let a = c.args in
    shape_stored d a.line.now (word_of a.line.now a.t) (items_at a.line.now a.is) T N ok
    c.number-table.result
    c.table_scheme-scheme.result
    (c.number-table.ensures ∙ ap or_zero (c.find_table.ensures.0 _ T))
    c.table_scheme-scheme.ensures
    (λ m ms. sym (c.leads_label.ensures m ms) ∙ c.if-leads_label.false)
    (λ m ms. sym (c.has_brackets-bracketed.ensures m ms) ∙ c.if-bracketed-2.false)
    (λ ws small v few. c.store_plain.ensures d.rows ws l N small v few)
