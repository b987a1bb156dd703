-- `purpose::verdict_of` meets its contract: one test for each of the two facts. Assumes nothing.
use Rattle.purpose.specs.Verdicts.{verdict_by}
use Rattle.purpose.proofs.verdict_of.Goals as goal

pub returns : goal.returns
unfolding verdict_by
returns c = λ i. record { allowed = c.meets.ensures i; denied = c.meets-2.ensures i }
