-- `relations::tables::column_kind` meets its contract. Assumes nothing.
use native.Mathlib.Omega.{arith}
use Rattle.relations.proofs.tables.column_kind.Goals as goal

pub returns-then-c-lt-COLUMNS : goal.returns-then-c-lt-COLUMNS
returns-then-c-lt-COLUMNS c l s = c.kind_by.ensures

pub returns-else-c-lt-COLUMNS : goal.returns-else-c-lt-COLUMNS
returns-else-c-lt-COLUMNS c l s = absurd (omega (arith, s, c.if-c-lt-COLUMNS.false))

pub returns-else-t-lt-TABLES : goal.returns-else-t-lt-TABLES
returns-else-t-lt-TABLES c l s = absurd (omega (arith, l, c.if-t-lt-TABLES.false))
