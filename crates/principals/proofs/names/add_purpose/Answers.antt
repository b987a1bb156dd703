-- `principals::names::add_purpose` meets its contract: the array has room, and a name's hash is a slot's number. Assumes nothing.
use native.Mathlib.Omega.{arith}
use Rattle.workspace.proofs.HashLaws.{hash_below}
use Rattle.text.specs.Words.{word_at}
use Rattle.principals.proofs.names.add_purpose.Goals as goal

pub returns-then-h-lt-SLOTS : goal.returns-then-h-lt-SLOTS
returns-then-h-lt-SLOTS c text ns n e l = c.add_node.ensures text ns n e

pub returns-else-h-lt-SLOTS : goal.returns-else-h-lt-SLOTS
returns-else-h-lt-SLOTS c text ns n e l = absurd (omega (arith, e, hash_below (word_at text c.args.pos)))

pub returns-else-k-lt-PURPOSES : goal.returns-else-k-lt-PURPOSES
returns-else-k-lt-PURPOSES c text ns n e l = absurd (omega arith)
