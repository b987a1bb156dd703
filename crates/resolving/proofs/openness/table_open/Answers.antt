-- `resolving::openness::table_open` meets its contract. Assumes nothing.
use Rattle.document.specs.Lookup.{settled}
use Rattle.document.specs.Open.{label_open, table_open}
use Rattle.form.specs.declared.lines.Scheme.TheVariants as code
use Rattle.relations.proofs.LabelLaws.{said_open}
use Rattle.relations.proofs.TableLaws.{table_inside}
use Rattle.relations.specs.Tables.{scheme_by}
use Rattle.resolving.proofs.OpennessLaws.{table_by}
use mathlib.Core.Option.{some}
use mathlib.Core.Path.{◌∙◌, ap, sym}
use Rattle.resolving.proofs.openness.table_open.Goals as goal

pub returns-in-Unlabelled : goal.returns-in-Unlabelled
unfolding table_open scheme_by settled
returns-in-Unlabelled c d text k p h m l o = let entry = c.args in c.is_public.ensures (table_inside text entry.tables.now k entry.t d h l) ∙ (m.said entry.t l).is_public? ∙ sym (table_by text entry.tables.now k entry.t d p h l c.table_scheme-scheme.result code.Unlabelled c.table_scheme-scheme.ensures c.in-Unlabelled.is)

pub returns-in-ByTable : goal.returns-in-ByTable
unfolding table_open scheme_by settled
returns-in-ByTable c d text k p h m l o = let entry = c.args in c.opened_at.ensures ∙ said_open o c.table_label.result ∙ ap (λ x. label_open d p (some x)) (c.table_label.ensures (table_inside text entry.tables.now k entry.t d h l)) ∙ sym (table_by text entry.tables.now k entry.t d p h l c.table_scheme-scheme.result code.ByTable c.table_scheme-scheme.ensures c.in-ByTable.is)

pub returns-in-ByColumn : goal.returns-in-ByColumn
unfolding table_open scheme_by settled
returns-in-ByColumn c d text k p h m l o = let entry = c.args in sym (table_by text entry.tables.now k entry.t d p h l c.table_scheme-scheme.result code.ByColumn c.table_scheme-scheme.ensures c.in-ByColumn.is)

pub returns-in-ByRow : goal.returns-in-ByRow
unfolding table_open scheme_by settled
returns-in-ByRow c d text k p h m l o = let entry = c.args in sym (table_by text entry.tables.now k entry.t d p h l c.table_scheme-scheme.result code.ByRow c.table_scheme-scheme.ensures c.in-ByRow.is)

pub returns-in-ByCell : goal.returns-in-ByCell
unfolding table_open scheme_by settled
returns-in-ByCell c d text k p h m l o = let entry = c.args in sym (table_by text entry.tables.now k entry.t d p h l c.table_scheme-scheme.result code.ByCell c.table_scheme-scheme.ensures c.in-ByCell.is)

pub returns-in-Nested : goal.returns-in-Nested
unfolding table_open scheme_by settled
returns-in-Nested c d text k p h m l o = let entry = c.args in sym (table_by text entry.tables.now k entry.t d p h l c.table_scheme-scheme.result code.Nested c.table_scheme-scheme.ensures c.in-Nested.is)
