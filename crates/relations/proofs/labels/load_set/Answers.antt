-- `relations::labels::load_set` meets its contract. Assumes nothing.
use native.Mathlib.Omega.{arith}
use Rattle.relations.specs.Labels.{set_in}
use Rattle.relations.proofs.labels.load_set.Goals as goal

pub returns-then-i : goal.returns-then-i
unfolding set_in
returns-then-i c l = c.load_words.ensures

pub returns : goal.returns
returns c l = absurd (omega arith)
