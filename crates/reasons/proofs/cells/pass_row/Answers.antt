-- `reasons::cells::pass_row` meets its contract. Assumes nothing.
use Rattle.reasons.proofs.RowLaws.{pass_last, pass_one, pass_other}
use borrow.Author.Tests.{eq-eqb, ne_eqb}
use mathlib.Core.Path.{◌∙◌, sym}
use Rattle.reasons.proofs.cells.pass_row.Goals as goal

pub returns-then-row_table-t : goal.returns-then-row_table-t
returns-then-row_table-t c h = pass_other _ c.args.left (ne_eqb _ _ (λ z. c.if-row_table-t.true (c.row_table.ensures h ∙ z)))

pub returns-then-left-eq0 : goal.returns-then-left-eq0
returns-then-left-eq0 c h = pass_last _ c.args.left (eq-eqb _ _ (sym (c.row_table.ensures h) ∙ c.if-row_table-t.false)) c.if-left-eq0.true

pub returns : goal.returns
returns c h = pass_one _ c.args.left (eq-eqb _ _ (sym (c.row_table.ensures h) ∙ c.if-row_table-t.false)) c.if-left-eq0.false
