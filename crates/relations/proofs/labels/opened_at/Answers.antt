-- `relations::labels::opened_at` meets its contract. Assumes nothing.
use Rattle.purpose.specs.declared.Verdict.{Verdict}
use Rattle.relations.specs.Labels.{opened_in}
use mathlib.Core.Bool.{Bool, ◌&&◌, not}
use mathlib.Core.Path.{◌∙◌, ap, sym}
use Rattle.relations.proofs.labels.opened_at.Goals as goal

pub returns-then-v : goal.returns-then-v
unfolding opened_in
returns-then-v c = sym (ap (λ (v : Verdict). v.allowed && not v.denied) (sym c.said_at-v.ensures) ∙ ap (λ (x : Bool). x && not c.said_at-v.result.denied) c.if-v.true)

pub returns : goal.returns
unfolding opened_in
returns c = sym (ap (λ (v : Verdict). v.allowed && not v.denied) (sym c.said_at-v.ensures) ∙ ap (λ (x : Bool). x && not c.said_at-v.result.denied) c.if-v.false)
