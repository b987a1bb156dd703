-- `relations::labels::verdict_there` meets its contract: a label that is there says what its sets say, another nothing. Assumes nothing.
use mathlib.Core.Path.{◌∙◌, ap, sym}
use native.Mathlib.Omega.{arith}
use Rattle.document.specs.Policy.{tree_of}
use Rattle.purpose.specs.Verdicts.{silent, verdict}
use Rattle.relations.proofs.LabelLaws.{label_silent, label_there}
use Rattle.relations.proofs.labels.verdict_there.Goals as goal

pub returns-then-i-k : goal.returns-then-i-k
returns-then-i-k c text ws d p h of = let a = c.args in
    let got = label_there text ws a.sets.now a.k d h p a.i (omega arith) in
    c.label_verdict.ensures (tree_of d.purposes) p text ws a.k d.labels got.0 h got.1 of ∙ ap (λ m. verdict (tree_of d.purposes) m p) (sym got.2)

pub returns : goal.returns
unfolding silent
returns c text ws d p h of = let a = c.args in
    sym (label_silent text ws a.sets.now a.k d h p a.i (omega arith))
