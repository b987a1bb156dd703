-- `judging::marking::under_row` meets its contract. Assumes nothing.
use Rattle.judging.proofs.OpenCells.{under_nested, under_own}
use Rattle.purpose.specs.Verdicts.{over}
use Rattle.relations.specs.Rows.{labels_in}
use mathlib.Core.Path.{◌∙◌, ap}
use Rattle.judging.proofs.marking.under_row.Goals as goal

pub returns-then-m : goal.returns-then-m
returns-then-m c small f = under_nested c.args.said.now c.args.m
    (labels_in c.args.rows.now c.args.r)
    c.if-m.true c.merged_over.result
    (c.merged_over.ensures ∙ ap (over c.args.m.weak) (c.label_said-own.ensures small f))

pub returns : goal.returns
returns c small f = under_own c.args.said.now c.args.m (labels_in c.args.rows.now c.args.r) c.if-m.false
