-- `judging::fates::any_closed` meets its contract. The loop's invariant: whether one of the columns from i on is
-- closed is whether one of them all is. Assumes nothing.
use Rattle.judging.proofs.OpenCells.{any_found, any_more, any_none}
use Rattle.judging.specs.Marking.{open_under}
use Rattle.relations.specs.Rows.{labels_in}
use mathlib.Core.Bool.{not}
use mathlib.Core.Path.{◌∙◌, ap, refl, sym}
use Rattle.judging.proofs.fates.any_closed.Goals as goal

pub loop-i-init : goal.loop-i-init
loop-i-init c = λ i f. refl

pub returns-then-not-cell_open : goal.returns-then-not-cell_open
returns-then-not-cell_open c = let a = c.args in
    let l = c.loop-i in
    λ i f. sym (any_found (λ k. not (open_under a.said.now a.m (labels_in a.rows.now a.r) k)) a.columns.now l.i
    c.loop-i-test.true
    (ap not (sym (c.cell_open.ensures i f)) ∙ c.if-not-cell_open.true-raw)) ∙ l.invariant i f

pub loop-i-preserved : goal.loop-i-preserved
loop-i-preserved c = let a = c.args in
    let l = c.loop-i in
    λ i f. sym (any_more (λ k. not (open_under a.said.now a.m (labels_in a.rows.now a.r) k)) a.columns.now l.i
    c.loop-i-test.true
    (ap not (sym (c.cell_open.ensures i f)) ∙ c.if-not-cell_open.false-raw)) ∙ l.invariant i f

pub returns : goal.returns
returns c = let a = c.args in
    λ i f. sym (any_none (λ k. not (open_under a.said.now a.m (labels_in a.rows.now a.r) k)) a.columns.now c.loop-i.i c.loop-i-test.false) ∙ c.loop-i.invariant i f
