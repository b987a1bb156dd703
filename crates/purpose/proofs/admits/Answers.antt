-- `purpose::admits` meets its contract: where the first test fails the label is closed, and else the second decides. Assumes nothing.
use mathlib.Core.Path.{sym, ap, ◌∙◌}
use mathlib.Core.Bool.{Bool, ◌&&◌, not}
use Rattle.purpose.specs.Compliance.{intersects}
use Rattle.purpose.specs.Members.{members}
use Rattle.purpose.specs.Meaning.{admitted}
use Rattle.purpose.proofs.admits.Goals as goal

pub returns-then-meets : goal.returns-then-meets
unfolding admitted
returns-then-meets c = let args = c.args in
    ap not c.meets-then-meets.ensures
    ∙ ap (λ (b : Bool). b && not (intersects (members args.c.relatives) (members args.l.denied)))
    (sym c.if-meets.true ∙ c.meets.ensures)

pub returns-else-meets : goal.returns-else-meets
unfolding admitted
returns-else-meets c = let args = c.args in
    ap (λ (b : Bool). b && not (intersects (members args.c.relatives) (members args.l.denied)))
    (sym c.if-meets.false ∙ c.meets.ensures)
