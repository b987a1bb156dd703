-- `reasons::cells::row_mark` meets its contract. Assumes nothing.
use Rattle.relations.proofs.LabelLaws.{element_none}
use Rattle.relations.proofs.RowLaws.{label_read, labels_read}
use mathlib.Core.Path.{sym}
use native.Mathlib.Omega.{arith}
use Rattle.reasons.proofs.cells.row_mark.Goals as goal

pub returns-then-m-row_labels : goal.returns-then-m-row_labels
returns-then-m-row_labels c text k rs x h e = let a = c.args in
    sym (label_read text a.rows.now k rs h a.r x e a.m c.row_label.result (omega (arith, c.if-m-row_labels.true, labels_read text a.rows.now k rs h a.r x e c.row_labels.result c.row_labels.ensures)) c.row_label.ensures)

pub returns : goal.returns
returns c text k rs x h e = let a = c.args in
    sym (element_none x.labels a.m (omega (arith, c.if-m-row_labels.false, labels_read text a.rows.now k rs h a.r x e c.row_labels.result c.row_labels.ensures)))
