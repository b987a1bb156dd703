-- `reasons::cells::meant_label` meets its contract: the scheme that the code reads says which label is meant. Assumes nothing.
use Prim.Native.Nat.{ℕ}
use Rattle.answer.specs.Why.{label_meant}
use Rattle.document.specs.Lookup.{settled}
use Rattle.form.specs.Form.{Scheme}
use Rattle.form.specs.declared.lines.Scheme.TheVariants as code
use Rattle.reasons.proofs.CellLaws.{column_labelled, column_unlabelled, labelling_by}
use Rattle.relations.proofs.TableLaws.{table_inside}
use Rattle.relations.specs.Tables.{scheme_by}
use mathlib.Core.Option.{some}
use mathlib.Core.Path.{◌∙◌, ap, sym}
use Rattle.reasons.proofs.cells.meant_label.Goals as goal

pub returns-then-c-table_width : goal.returns-then-c-table_width
unfolding label_meant settled scheme_by
returns-then-c-table_width c d text k n rs x h l R e = let a = c.args in
    column_labelled text a.tables.now k a.t d h l a.c c.table_width.result c.table_width.ensures c.if-c-table_width.true c.column_label.result c.column_label.ensures ∙ sym (ap (λ (z : Scheme ℕ). label_meant z x.labels a.c) (labelling_by text a.tables.now k a.t d h l c.table_scheme-scheme.result code.ByColumn c.table_scheme-scheme.ensures c.in-ByColumn.is))

pub returns-in-Unlabelled : goal.returns-in-Unlabelled
unfolding label_meant settled scheme_by
returns-in-Unlabelled c d text k n rs x h l R e = let a = c.args in
    sym (ap (λ (z : Scheme ℕ). label_meant z x.labels a.c) (labelling_by text a.tables.now k a.t d h l c.table_scheme-scheme.result code.Unlabelled c.table_scheme-scheme.ensures c.in-Unlabelled.is))

pub returns-in-ByTable : goal.returns-in-ByTable
unfolding label_meant settled scheme_by
returns-in-ByTable c d text k n rs x h l R e = let a = c.args in
    ap some (c.table_label.ensures (table_inside text a.tables.now k a.t d h l)) ∙ sym (ap (λ (z : Scheme ℕ). label_meant z x.labels a.c) (labelling_by text a.tables.now k a.t d h l c.table_scheme-scheme.result code.ByTable c.table_scheme-scheme.ensures c.in-ByTable.is))

pub returns-else-c-table_width : goal.returns-else-c-table_width
unfolding label_meant settled scheme_by
returns-else-c-table_width c d text k n rs x h l R e = let a = c.args in
    column_unlabelled text a.tables.now k a.t d h l a.c c.table_width.result c.table_width.ensures c.if-c-table_width.false ∙ sym (ap (λ (z : Scheme ℕ). label_meant z x.labels a.c) (labelling_by text a.tables.now k a.t d h l c.table_scheme-scheme.result code.ByColumn c.table_scheme-scheme.ensures c.in-ByColumn.is))

pub returns-in-ByRow : goal.returns-in-ByRow
unfolding label_meant settled scheme_by
returns-in-ByRow c d text k n rs x h l R e = let a = c.args in
    c.row_mark.ensures text n rs x R e ∙ sym (ap (λ (z : Scheme ℕ). label_meant z x.labels a.c) (labelling_by text a.tables.now k a.t d h l c.table_scheme-scheme.result code.ByRow c.table_scheme-scheme.ensures c.in-ByRow.is))

pub returns-in-ByCell : goal.returns-in-ByCell
unfolding label_meant settled scheme_by
returns-in-ByCell c d text k n rs x h l R e = let a = c.args in
    c.row_mark-in-ByCell.ensures text n rs x R e ∙ sym (ap (λ (z : Scheme ℕ). label_meant z x.labels a.c) (labelling_by text a.tables.now k a.t d h l c.table_scheme-scheme.result code.ByCell c.table_scheme-scheme.ensures c.in-ByCell.is))

pub returns-in-Nested : goal.returns-in-Nested
unfolding label_meant settled scheme_by
returns-in-Nested c d text k n rs x h l R e = let a = c.args in
    sym (ap (λ (z : Scheme ℕ). label_meant z x.labels a.c) (labelling_by text a.tables.now k a.t d h l c.table_scheme-scheme.result code.Nested c.table_scheme-scheme.ensures c.in-Nested.is))
