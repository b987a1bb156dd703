-- `judging::marking::cell_open` meets its contract. Assumes nothing.
use Rattle.judging.proofs.OpenCells.{open_nested, open_own}
use Rattle.purpose.specs.Verdicts.{open_by, over}
use Rattle.relations.specs.Rows.{labels_in}
use mathlib.Core.Path.{◌∙◌, ap}
use Rattle.judging.proofs.marking.cell_open.Goals as goal

pub returns-then-m : goal.returns-then-m
returns-then-m c small f = c.nest_open.ensures ∙ ap
    (λ v. open_by c.args.m.strong (over c.args.m.weak v))
    (c.cell_said-own.ensures small f) ∙ open_nested c.args.said.now
    c.args.m
    (labels_in c.args.rows.now c.args.r)
    c.if-m.true c.args.c

pub returns : goal.returns
returns c small f = c.label_open.ensures small f ∙ open_own c.args.said.now c.args.m (labels_in c.args.rows.now c.args.r) c.if-m.false c.args.c
