-- `reserve::longest::table_length` meets its contract: the lines, and the end line around the number of rows. Assumes nothing.
use native.Mathlib.Omega.{arith}
use Rattle.answer.specs.Seen.{rows_in}
use Rattle.reserve.proofs.SumLaws.{sums_whole}
use Rattle.writing.proofs.Digits.{decimal_short}
use Rattle.reserve.proofs.longest.table_length.Goals as goal

pub table_sum-s-requires : goal.table_sum-s-requires
table_sum-s-requires c = c.requires

pub overflow_add-result : goal.overflow_add-result
overflow_add-result c = omega (arith, c.table_sum-s.ensures.2)

pub overflow_add-result-2 : goal.overflow_add-result-2
overflow_add-result-2 c = omega (arith, c.table_sum-s.ensures.2, c.decimal_length-digits.ensures, decimal_short c.table_sum-s.result.count)

pub returns : goal.returns
returns c = λ rs h. omega (arith, c.decimal_length-digits.ensures, sums_whole (rows_in c.args.t rs) c.table_sum-s.result (c.table_sum-s.ensures.0 rs h))
