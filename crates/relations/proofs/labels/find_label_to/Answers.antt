-- `relations::labels::find_label_to` meets its contract: what is found among the positions is found among the labels. Assumes nothing.
use native.Mathlib.Omega.{arith}
use Rattle.relations.proofs.LabelLaws.{label_found}
use Rattle.workspace.specs.Found.{found_as}
use Rattle.text.specs.Words.{word_of}
use Rattle.relations.proofs.labels.find_label_to.Goals as goal

pub returns-then-k-gt-LABELS : goal.returns-then-k-gt-LABELS
returns-then-k-gt-LABELS c = (λ sets ls ended h. absurd (omega (arith, h.few)), tt)

pub returns : goal.returns
returns c = let a = c.args in
    (λ sets ls ended h. label_found (word_of a.line.now a.u) (found_as c.find_name_to.result) h (c.find_name_to.ensures.0 (omega arith) ended), c.find_name_to.ensures.1)
