-- `purpose::nest_open` meets its contract: the strong verdict first, and else the weak ones, merged. Assumes nothing.
use mathlib.Core.Bool.{Bool, cond, false}
use mathlib.Core.Path.{◌∙◌, ap, sym}
use Rattle.purpose.proofs.Nesting.{open_allowed, open_denied, open_weakly}
use Rattle.purpose.specs.Verdicts.{open_by}
use Rattle.purpose.proofs.nest_open.Goals as goal

pub returns-then-strong : goal.returns-then-strong
returns-then-strong c = open_denied c.args.strong _ c.if-strong.true

pub returns-then-strong-2 : goal.returns-then-strong-2
returns-then-strong-2 c = open_allowed c.args.strong _ c.if-strong.false c.if-strong-2.true

pub returns-then-weak : goal.returns-then-weak
returns-then-weak c = let a = c.args in
    sym (ap (λ (b : Bool). cond b false c.merged_over-weak.result.allowed) c.if-weak.true)
    ∙ open_weakly a.strong c.merged_over-weak.result c.if-strong.false c.if-strong-2.false
    ∙ ap (open_by a.strong) c.merged_over-weak.ensures

pub returns : goal.returns
returns c = let a = c.args in
    sym (ap (λ (b : Bool). cond b false c.merged_over-weak.result.allowed) c.if-weak.false)
    ∙ open_weakly a.strong c.merged_over-weak.result c.if-strong.false c.if-strong-2.false
    ∙ ap (open_by a.strong) c.merged_over-weak.ensures
