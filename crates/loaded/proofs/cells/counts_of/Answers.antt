-- `loaded::cells::counts_of` meets its contract. Assumes nothing.
use Rattle.loaded.specs.Cells.{counts_in}
use mathlib.Core.Path.{refl}
use Rattle.loaded.proofs.cells.counts_of.Goals as goal

pub returns : goal.returns
unfolding counts_in
returns c = refl
