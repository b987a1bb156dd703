-- `relations::labels::said_at` meets its contract. Assumes nothing.
use Rattle.purpose.specs.Verdicts.{silent}
use Rattle.relations.proofs.LabelLaws.{said_behind, said_there}
use borrow.Author.Tests.{le-ltb}
use mathlib.Core.Path.{sym}
use native.Mathlib.Omega.{arith}
use Rattle.relations.proofs.labels.said_at.Goals as goal

pub returns-then-l-lt-LABELS : goal.returns-then-l-lt-LABELS
returns-then-l-lt-LABELS c = sym (said_there c.args.said.now c.args.l (omega arith))

pub returns : goal.returns
unfolding silent
returns c = sym (said_behind c.args.said.now c.args.l (le-ltb c.args.l 64 (omega arith)))
