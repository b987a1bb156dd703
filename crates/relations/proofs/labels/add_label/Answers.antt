-- `relations::labels::add_label` meets its contract, by the law of one more. Assumes nothing.
use native.Mathlib.Omega.{arith}
use Rattle.relations.proofs.LabelLaws.{labels_pushed}
use Rattle.relations.proofs.labels.add_label.Goals as goal

pub returns-then-k-lt-LABELS : goal.returns-then-k-lt-LABELS
returns-then-k-lt-LABELS c text ls xs ys h l ha hb = let a = c.args in
    labels_pushed text a.ws.now a.sets.now a.k ls h _ _ _ a.pos a.allowed a.denied xs ys c.told-ws l c.put.ensures c.store_set.ensures c.store_set-then-k-lt-LABELS.ensures ha hb

pub returns-else-k-lt-LABELS : goal.returns-else-k-lt-LABELS
returns-else-k-lt-LABELS c text ls xs ys h l ha hb = absurd (omega arith)
