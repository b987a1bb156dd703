-- `resolving::openness::closed_column` meets its contract: only labels by column close a column. Assumes nothing.
use mathlib.Core.Path.{◌∙◌, refl, sym}
use Rattle.document.specs.Open.{column_open}
use Rattle.relations.specs.Tables.{scheme_by}
use Rattle.text.proofs.OffendingLaws.{missing_all}
use Rattle.form.specs.declared.lines.Scheme.TheVariants as code
use Rattle.query.specs.Naming.{words_at}
use Rattle.resolving.proofs.OpennessLaws.{columns_by_lem}
use Rattle.resolving.proofs.openness.closed_column.Goals as goal

pub returns-in-Unlabelled : goal.returns-in-Unlabelled
unfolding column_open scheme_by
returns-in-Unlabelled c d text s k p h l a b o e = let entry = c.args in sym (columns_by_lem text entry.tables.now k entry.t d p h l c.table_scheme-scheme.result code.Unlabelled c.table_scheme-scheme.ensures c.in-Unlabelled.is (words_at s entry.n entry.places.now) ∙ missing_all _ (words_at s entry.n entry.places.now) (λ w. refl))

pub returns-in-ByTable : goal.returns-in-ByTable
unfolding column_open scheme_by
returns-in-ByTable c d text s k p h l a b o e = let entry = c.args in sym (columns_by_lem text entry.tables.now k entry.t d p h l c.table_scheme-scheme.result code.ByTable c.table_scheme-scheme.ensures c.in-ByTable.is (words_at s entry.n entry.places.now) ∙ missing_all _ (words_at s entry.n entry.places.now) (λ w. refl))

pub returns-in-ByColumn : goal.returns-in-ByColumn
unfolding column_open scheme_by
returns-in-ByColumn c d text s k p h l a b o e = let entry = c.args in c.first_closed.ensures d text s k p h l a b o e ∙ sym (columns_by_lem text entry.tables.now k entry.t d p h l c.table_scheme-scheme.result code.ByColumn c.table_scheme-scheme.ensures c.in-ByColumn.is (words_at s entry.n entry.places.now))

pub returns-in-ByRow : goal.returns-in-ByRow
unfolding column_open scheme_by
returns-in-ByRow c d text s k p h l a b o e = let entry = c.args in sym (columns_by_lem text entry.tables.now k entry.t d p h l c.table_scheme-scheme.result code.ByRow c.table_scheme-scheme.ensures c.in-ByRow.is (words_at s entry.n entry.places.now) ∙ missing_all _ (words_at s entry.n entry.places.now) (λ w. refl))

pub returns-in-ByCell : goal.returns-in-ByCell
unfolding column_open scheme_by
returns-in-ByCell c d text s k p h l a b o e = let entry = c.args in sym (columns_by_lem text entry.tables.now k entry.t d p h l c.table_scheme-scheme.result code.ByCell c.table_scheme-scheme.ensures c.in-ByCell.is (words_at s entry.n entry.places.now) ∙ missing_all _ (words_at s entry.n entry.places.now) (λ w. refl))

pub returns-in-Nested : goal.returns-in-Nested
unfolding column_open scheme_by
returns-in-Nested c d text s k p h l a b o e = let entry = c.args in sym (columns_by_lem text entry.tables.now k entry.t d p h l c.table_scheme-scheme.result code.Nested c.table_scheme-scheme.ensures c.in-Nested.is (words_at s entry.n entry.places.now) ∙ missing_all _ (words_at s entry.n entry.places.now) (λ w. refl))
