-- `ranging::join_ranged::is_ref_ranged` meets its contract: the first table's width says in which table the column is. Assumes nothing.
use Rattle.answer.specs.Ranged.{has_range}
use Rattle.resolving.proofs.Through.{through_above, through_below}
use mathlib.Core.Path.{◌∙◌}
use native.Mathlib.Omega.{arith}
use Rattle.ranging.proofs.join_ranged.is_ref_ranged.Goals as goal

pub returns-then-c-width : goal.returns-then-c-width
unfolding has_range
returns-then-c-width c = λ d s k j h w. c.column_ranged.ensures d.rows w ∙ through_below h (has_range d) c.args.c
    c.table_width-width.result c.table_width-width.ensures c.if-c-width.true

pub returns : goal.returns
unfolding has_range
returns c = λ d s k j h w. c.column_ranged-2.ensures d.rows w ∙ through_above h (has_range d) c.args.c
    c.table_width-width.result c.table_width-width.ensures (omega (arith, c.if-c-width.false))
