-- `purpose::is_above` meets its contract. Assumes nothing.
use Rattle.purpose.specs.Meaning.{is_above}
use Rattle.purpose.proofs.is_above.Goals as goal

pub returns : goal.returns
unfolding is_above
returns c = c.contains.ensures
