-- `resolving::join_openness::is_ref_open` meets its contract: the first table's width says in which table the column is. Assumes nothing.
use Rattle.resolving.proofs.Through.{through_above, through_below}
use Rattle.resolving.specs.Joins.{open_column}
use mathlib.Core.Path.{◌∙◌}
use native.Mathlib.Omega.{arith}
use Rattle.resolving.proofs.join_openness.is_ref_open.Goals as goal

pub returns-then-c-width : goal.returns-then-c-width
returns-then-c-width c = λ d text s k q j h o.
    c.is_column_open.ensures d text k q h.tables h.first_inside o ∙ through_below h (open_column d q) c.args.c
    c.table_width-width.result c.table_width-width.ensures c.if-c-width.true

pub returns : goal.returns
returns c = λ d text s k q j h o.
    c.is_column_open-2.ensures d text k q h.tables h.second_inside o ∙ through_above h (open_column d q) c.args.c
    c.table_width-width.result c.table_width-width.ensures (omega (arith, c.if-c-width.false))
