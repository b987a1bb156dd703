-- `judging::marking::label_open` meets its contract. Assumes nothing.
use Rattle.judging.specs.Marking.{opened_for}
use Rattle.purpose.specs.declared.Verdict.{Verdict}
use mathlib.Core.Bool.{Bool, ◌&&◌, not}
use mathlib.Core.Path.{◌∙◌, ap, sym}
use Rattle.judging.proofs.marking.label_open.Goals as goal

pub returns-then-v : goal.returns-then-v
unfolding opened_for
returns-then-v c small f = sym (ap (λ (v : Verdict). v.allowed && not v.denied) (sym (c.label_said-v.ensures small f)) ∙ ap (λ (x : Bool). x && not c.label_said-v.result.denied) c.if-v.true)

pub returns : goal.returns
unfolding opened_for
returns c small f = sym (ap (λ (v : Verdict). v.allowed && not v.denied) (sym (c.label_said-v.ensures small f)) ∙ ap (λ (x : Bool). x && not c.label_said-v.result.denied) c.if-v.false)
