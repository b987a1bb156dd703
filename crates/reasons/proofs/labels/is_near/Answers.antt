-- `reasons::labels::is_near` meets its contract. Assumes nothing.
use Rattle.lists.specs.Lists.{holds_of, member}
use Rattle.purpose.specs.Members.{members}
use Rattle.workspace.specs.Found.{found_as}
use Rattle.std.specs.Prelude.{Option, ℕ}
use mathlib.Core.Path.{◌∙◌, ap, sym}
use Rattle.reasons.proofs.labels.is_near.Goals as goal

pub returns-in-Some : goal.returns-in-Some
unfolding holds_of
returns-in-Some c = c.contains.ensures ∙ sym (ap (λ (x : Option ℕ). holds_of (λ n. member n (members c.args.closure.relatives)) (found_as x)) c.in-Some.is)

pub returns-in-None : goal.returns-in-None
unfolding holds_of
returns-in-None c = sym (ap (λ (x : Option ℕ). holds_of (λ n. member n (members c.args.closure.relatives)) (found_as x)) c.in-None.is)
