-- `answering::lines::put_line` meets its contract. Assumes nothing.
use Rattle.answering.proofs.LineLaws.{line_none, line_written}
use Rattle.answering.proofs.lines.put_line.Goals as goal

pub put_row-requires : goal.put_row-requires
put_row-requires c = (c.requires, c.row_values-width.ensures.few)

pub returns-then-marked : goal.returns-then-marked
returns-then-marked c = let a = c.args in
    λ n f. line_written a.said.now a.m a.text.now a.rows.now a.gaps a.columns.now a.r c.requires c.if-marked.true c.row_values-width.ensures (c.put_row.ensures f) n

pub returns : goal.returns
returns c = let a = c.args in
    λ n f. line_none a.said.now a.m a.text.now a.rows.now a.gaps a.columns.now a.r a.out.now a.at c.if-marked.false
