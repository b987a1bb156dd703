-- `resolving::join_openness::is_column_open` meets its contract: only labels by column close a column. Assumes nothing.
use Rattle.document.specs.Open.{column_open}
use Rattle.form.specs.declared.lines.Scheme.TheVariants as code
use Rattle.relations.specs.Tables.{scheme_by}
use Rattle.resolving.proofs.OpennessLaws.{column_by}
use mathlib.Core.Path.{◌∙◌, sym}
use Rattle.resolving.proofs.join_openness.is_column_open.Goals as goal

pub returns-in-Unlabelled : goal.returns-in-Unlabelled
unfolding column_open scheme_by
returns-in-Unlabelled c = let a = c.args in
    λ d text k p h l o. sym (column_by text a.tables.now k a.t d p h l c.table_scheme-scheme.result code.Unlabelled
    c.table_scheme-scheme.ensures c.in-Unlabelled.is a.c)

pub returns-in-ByTable : goal.returns-in-ByTable
unfolding column_open scheme_by
returns-in-ByTable c = let a = c.args in
    λ d text k p h l o. sym (column_by text a.tables.now k a.t d p h l c.table_scheme-scheme.result code.ByTable
    c.table_scheme-scheme.ensures c.in-ByTable.is a.c)

pub returns-in-ByColumn : goal.returns-in-ByColumn
unfolding column_open scheme_by
returns-in-ByColumn c = let a = c.args in
    λ d text k p h l o. c.column_open.ensures d text k p h l o ∙ sym (column_by text a.tables.now k a.t d p h l
    c.table_scheme-scheme.result code.ByColumn c.table_scheme-scheme.ensures c.in-ByColumn.is a.c)

pub returns-in-ByRow : goal.returns-in-ByRow
unfolding column_open scheme_by
returns-in-ByRow c = let a = c.args in
    λ d text k p h l o. sym (column_by text a.tables.now k a.t d p h l c.table_scheme-scheme.result code.ByRow
    c.table_scheme-scheme.ensures c.in-ByRow.is a.c)

pub returns-in-ByCell : goal.returns-in-ByCell
unfolding column_open scheme_by
returns-in-ByCell c = let a = c.args in
    λ d text k p h l o. sym (column_by text a.tables.now k a.t d p h l c.table_scheme-scheme.result code.ByCell
    c.table_scheme-scheme.ensures c.in-ByCell.is a.c)

pub returns-in-Nested : goal.returns-in-Nested
unfolding column_open scheme_by
returns-in-Nested c = let a = c.args in
    λ d text k p h l o. sym (column_by text a.tables.now k a.t d p h l c.table_scheme-scheme.result code.Nested
    c.table_scheme-scheme.ensures c.in-Nested.is a.c)
