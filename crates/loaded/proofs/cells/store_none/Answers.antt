-- `loaded::cells::store_none` meets its contract. Assumes nothing.
use Rattle.loaded.specs.Cells.{no_cells}
use mathlib.Core.Path.{refl}
use Rattle.loaded.proofs.cells.store_none.Goals as goal

pub returns : goal.returns
unfolding no_cells
returns c = refl
