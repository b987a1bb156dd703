-- `workspace::met::has_bit` meets its contract. Assumes nothing.
use borrow.Author.Rules.{rules}
use Rattle.purpose.specs.Members.{has}
use Rattle.workspace.proofs.met.has_bit.Goals as goal

pub returns : goal.returns
unfolding has
returns c = search rules
