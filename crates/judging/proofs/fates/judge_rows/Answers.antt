-- `judging::fates::judge_rows` meets its contract: a prepared query is within the bounds. Assumes nothing.
use native.Mathlib.Omega.{arith}
use Rattle.judging.proofs.fates.judge_rows.Goals as goal

pub returns-then-count-le-ROWS : goal.returns-then-count-le-ROWS
returns-then-count-le-ROWS c = c.judge_bounded.ensures

pub returns-else-count-le-ROWS : goal.returns-else-count-le-ROWS
returns-else-count-le-ROWS c = λ d q pr. absurd (omega (arith, pr.rows.few, c.if-count-le-ROWS.false))

pub returns-else-s-le64 : goal.returns-else-s-le64
returns-else-s-le64 c = λ d q pr. absurd (omega (arith, pr.tested.few, c.if-s-le64.false))

pub returns-else-s-le-COLUMNS : goal.returns-else-s-le-COLUMNS
returns-else-s-le-COLUMNS c = λ d q pr. absurd (omega (arith, pr.few_chosen, c.if-s-le-COLUMNS.false))
