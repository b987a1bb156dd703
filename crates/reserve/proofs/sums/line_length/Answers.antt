-- `reserve::sums::line_length` meets its contract: the line is the values and six bytes. Assumes nothing.
use mathlib.Core.Path.{ap}
use lib.ListN.{length}
use native.Mathlib.Omega.{arith}
use Rattle.form.specs.RowText.{spaced}
use Rattle.relations.specs.Rows.{row_in, value_in}
use Rattle.reserve.proofs.SumLaws.{line_values}
use Rattle.workspace.specs.Tabulated.{tabulated}
use Rattle.reserve.proofs.sums.line_length.Goals as goal

pub values_length-requires : goal.values_length-requires
values_length-requires c = (c.requires.0, c.requires.1, c.row_values-width.ensures.few)

pub overflow_add-result : goal.overflow_add-result
overflow_add-result c = omega (arith, c.values_length.ensures.1)

pub returns : goal.returns
unfolding row_in
returns c = let f = value_in c.args.text.now c.args.rows.now c.args.r in
    (λ n. omega (arith, c.values_length.ensures.0, ap (λ k. length (spaced (tabulated f k))) (c.row_values-width.ensures.is c.requires.1 n), line_values (row_in c.args.text.now c.args.rows.now c.args.r).values), omega (arith, c.values_length.ensures.1))
