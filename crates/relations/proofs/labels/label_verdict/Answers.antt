-- `relations::labels::label_verdict` meets its contract: a label says what its sets say. Assumes nothing.
use mathlib.Core.Path.{◌∙◌}
use native.Mathlib.Omega.{arith}
use Rattle.relations.proofs.LabelLaws.{label_below, label_says}
use Rattle.purpose.proofs.Nesting.{verdict_meets}
use Rattle.relations.proofs.labels.label_verdict.Goals as goal

pub returns-then-i-lt-LABELS : goal.returns-then-i-lt-LABELS
returns-then-i-lt-LABELS c tree p text ws k ls l h e of = let a = c.args in
    c.verdict_of.ensures
    ∙ verdict_meets tree p a.closure (record { allowed = c.load_set-allowed.result; denied = c.load_set-denied.result }) of
    ∙ label_says text ws a.sets.now k ls h tree p a.i l c.load_set-allowed.result c.load_set-denied.result e (c.load_set-allowed.ensures (omega arith)) (c.load_set-denied.ensures (omega arith))

pub returns : goal.returns
returns c tree p text ws k ls l h e of = absurd (omega (arith, h.few, label_below text ws c.args.sets.now k ls h c.args.i l e))
