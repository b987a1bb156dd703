-- `reserve::sums::with_row` meets its contract. Assumes nothing.
use mathlib.Core.Path.{◌∙◌, refl, sym}
use native.Mathlib.Omega.{arith}
use Rattle.reserve.proofs.SumLaws.{adds_here, adds_other}
use Rattle.reserve.proofs.sums.with_row.Goals as goal

pub line_length-more-requires : goal.line_length-more-requires
line_length-more-requires c = (c.requires.0, c.requires.1)

pub overflow_add-result : goal.overflow_add-result
overflow_add-result c = omega (arith, c.requires.1, c.requires.2)

pub overflow_add-result-then-row_table-t : goal.overflow_add-result-then-row_table-t
overflow_add-result-then-row_table-t c = omega (arith, c.requires.1, c.requires.3, c.line_length-more.ensures.1)

pub returns-then-row_table-t : goal.returns-then-row_table-t
returns-then-row_table-t c = adds_here c.args.text.now c.args.rows.now c.args.r c.args.t c.args.s _ _ (sym (c.row_table.ensures c.requires.1) ∙ c.if-row_table-t.true) c.line_length-more.ensures.0 c.line_length-more.ensures.1 refl refl

pub returns : goal.returns
returns c = adds_other c.args.text.now c.args.rows.now c.args.r c.args.t c.args.s _ (λ e. c.if-row_table-t.false (c.row_table.ensures c.requires.1 ∙ e)) refl
