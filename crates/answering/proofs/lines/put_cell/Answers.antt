-- `answering::lines::put_cell` meets its contract. Assumes nothing.
use lib.ListN.{length}
use mathlib.Core.Path.{◌∙◌, ap, sym}
use Rattle.answering.proofs.LineLaws.{cell_gap, cell_missing, cell_shown_lem, wrote_as}
use Rattle.answering.specs.Lines.{values_in}
use Rattle.relations.specs.Rows.{value_in}
use Rattle.workspace.proofs.TabulatedLaws.{length_tabulated}
use Rattle.writing.proofs.Writing.{wrote_nothing}
use Rattle.answering.proofs.lines.put_cell.Goals as goal

pub returns-then-shown : goal.returns-then-shown
returns-then-shown c = let a = c.args in
    let vs = values_in a.text.now a.rows.now a.r a.width in
    let e = c.value_place-place.ensures c.requires.0 c.requires.1 in
    λ h.
    let n = c.value_size-size.ensures vs e h in
    (wrote_as (e ∙ cell_shown_lem vs a.c c.if-shown.true) (c.put_sized.ensures (n.0 ∙ ap length (sym e))), n.1)

pub returns-then-c-width : goal.returns-then-c-width
returns-then-c-width c = let a = c.args in
    λ h. (wrote_as (cell_gap (values_in a.text.now a.rows.now a.r a.width) a.c c.if-shown.false (length_tabulated (value_in a.text.now a.rows.now a.r) a.width) c.if-c-width.true) c.put_byte.ensures, h)

pub returns : goal.returns
returns c = let a = c.args in
    λ h. (wrote_as (cell_missing (values_in a.text.now a.rows.now a.r a.width) a.c c.if-shown.false (length_tabulated (value_in a.text.now a.rows.now a.r) a.width) c.if-c-width.false) (wrote_nothing a.out.now a.at), h)
