-- `resolving::openness::column_open` meets its contract. Assumes nothing.
use native.Mathlib.Omega.{arith}
use Rattle.resolving.proofs.OpennessLaws.{column_lacking, column_there}
use Rattle.resolving.proofs.openness.column_open.Goals as goal

pub returns-then-c-table_width : goal.returns-then-c-table_width
returns-then-c-table_width c d text k p h l o = let entry = c.args in column_there text entry.tables.now k entry.t d p h l entry.c c.table_width.result c.table_width.ensures c.if-c-table_width.true entry.said.now o c.column_label.result c.column_label.ensures c.opened_at.result c.opened_at.ensures

pub returns : goal.returns
returns c d text k p h l o = column_lacking text c.args.tables.now k c.args.t d p h l c.args.c c.table_width.result c.table_width.ensures (omega (arith, c.if-c-table_width.false))
