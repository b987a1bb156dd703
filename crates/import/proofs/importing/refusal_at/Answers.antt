-- `import::importing::refusal_at` meets its contract. Assumes nothing.
use Rattle.import.specs.Importing.{refusal_at}
use mathlib.Core.Path.{refl}
use Rattle.import.proofs.importing.refusal_at.Goals as goal

pub returns : goal.returns
unfolding refusal_at
returns c = refl
