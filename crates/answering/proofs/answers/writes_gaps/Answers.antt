-- `answering::answers::writes_gaps` meets its contract. Assumes nothing.
use mathlib.Core.Bool.{Bool, ◌&&◌}
use mathlib.Core.List.{[]}
use mathlib.Core.Path.{◌∙◌, ap, sym}
use Rattle.answering.specs.Lines.{gaps_by, labels_cells}
use Rattle.answering.proofs.answers.writes_gaps.Goals as goal

pub returns-then-leaves_gaps : goal.returns-then-leaves_gaps
unfolding gaps_by
returns-then-leaves_gaps c = let a = c.args in
    c.has_brackets.ensures 0 [] ∙ ap (λ (b : Bool). b && labels_cells a.scheme) (sym c.if-leaves_gaps.true ∙ c.leaves_gaps.ensures)

pub returns : goal.returns
unfolding gaps_by
returns c = let a = c.args in
    ap (λ (b : Bool). b && labels_cells a.scheme) (sym c.if-leaves_gaps.false ∙ c.leaves_gaps.ensures)
