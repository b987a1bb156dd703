-- `loaded::cells::is_loaded` meets its contract. Assumes nothing.
use Rattle.loaded.specs.Cells.{version}
use mathlib.Core.Path.{refl}
use Rattle.loaded.proofs.cells.is_loaded.Goals as goal

pub returns : goal.returns
unfolding version
returns c = refl
