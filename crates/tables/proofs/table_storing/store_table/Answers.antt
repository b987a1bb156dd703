-- `tables::table_storing::store_table` meets its contract, by whether the labels stand at the columns. Assumes nothing.
use mathlib.Core.Path.{◌∙◌, ap, sym}
use Rattle.document.specs.Lookup.{label_of}
use Rattle.lists.specs.Lists.{or_zero}
use Rattle.tables.proofs.TableStored.{labelled_columns_lem, labelled_scheme, plain_columns_lem, plain_scheme, table_stored}
use Rattle.tables.proofs.table_storing.store_table.Goals as goal

pub returns-then-labels_columns : goal.returns-then-labels_columns
unfolding label_of
returns-then-labels_columns c d sets l L N ok h = let a = c.args in
    table_stored l d a.t _ h c.place-pos.ensures a.scheme a.l a.cs _ _ _ N ok
    (labelled_columns_lem (λ w. or_zero (label_of d.policy w)) a.line.now a.l a.cs a.scheme (sym c.labels_columns.ensures ∙ c.if-labels_columns.true))
    (labelled_scheme (λ w. or_zero (label_of d.policy w)) a.line.now a.l a.cs a.scheme _ (sym c.labels_columns.ensures ∙ c.if-labels_columns.true))
    (λ small few. c.store_labelled_columns-width.ensures d.policy sets l L small few)
    c.add_table.ensures

pub returns : goal.returns
unfolding label_of
returns c d sets l L N ok h = let a = c.args in
    table_stored l d a.t _ h c.place-pos.ensures a.scheme a.l a.cs _ _ _ N ok
    (plain_columns_lem (λ w. or_zero (label_of d.policy w)) a.line.now a.l a.cs a.scheme (sym c.labels_columns.ensures ∙ c.if-labels_columns.false))
    (plain_scheme (λ w. or_zero (label_of d.policy w)) a.line.now a.l a.cs a.scheme _ _
    (c.number-label.ensures ∙ ap or_zero (c.find_label.ensures.0 sets _ L))
    (sym c.labels_columns.ensures ∙ c.if-labels_columns.false))
    (λ small few. c.store_columns-width.ensures l small few)
    c.add_table-2.ensures
