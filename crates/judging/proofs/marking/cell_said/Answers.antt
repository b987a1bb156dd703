-- `judging::marking::cell_said` meets its contract. Assumes nothing.
use Rattle.judging.proofs.OpenCells.{said_nowhere}
use Rattle.purpose.specs.Verdicts.{silent}
use Rattle.relations.specs.Labels.{verdict_for}
use Rattle.relations.specs.Rows.{labels_in}
use lib.ListN.{get_elem?}
use mathlib.Core.Path.{◌∙◌, ap}
use native.Mathlib.Numerals.{add-one}
use native.Mathlib.Omega.{arith}
use Rattle.judging.proofs.marking.cell_said.Goals as goal

pub returns-then-c-lt-COLUMNS : goal.returns-then-c-lt-COLUMNS
returns-then-c-lt-COLUMNS c small f = c.label_said.ensures small f ∙ ap (λ n. verdict_for c.args.said.now (get_elem? (labels_in c.args.rows.now c.args.r) n)) (add-one c.args.c)

pub returns : goal.returns
unfolding silent
returns c small f = said_nowhere c.args.said.now c.args.rows.now c.args.r c.args.c (omega arith) f
