-- `relations::labels::said_of` meets its contract. Assumes nothing.
use Rattle.purpose.specs.Verdicts.{silent}
use Rattle.relations.specs.Labels.{verdict_for}
use Rattle.workspace.specs.Found.{found_as}
use Rattle.std.specs.Prelude.{Option, ℕ}
use mathlib.Core.Path.{◌∙◌, ap, sym}
use Rattle.relations.proofs.labels.said_of.Goals as goal

pub returns-in-Some : goal.returns-in-Some
unfolding verdict_for
returns-in-Some c = c.said_at.ensures ∙ sym (ap (λ (f : Option ℕ). verdict_for c.args.said.now (found_as f)) c.in-Some.is)

pub returns-in-None : goal.returns-in-None
unfolding verdict_for silent
returns-in-None c = sym (ap (λ (f : Option ℕ). verdict_for c.args.said.now (found_as f)) c.in-None.is)
