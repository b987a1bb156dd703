-- `loaded::cells::store_counts` meets its contract. Assumes nothing.
use Rattle.loaded.specs.Cells.{cells_of, version}
use mathlib.Core.Path.{refl}
use Rattle.loaded.proofs.cells.store_counts.Goals as goal

pub returns : goal.returns
unfolding cells_of version
returns c = refl
