-- What is stored beside the arrays is read back. Assumes nothing.
use Prim.Native.Nat.{ℕ}
use lib.ListN.{get_or}
use mathlib.Core.Path.{◌≡◌, refl}
use Rattle.index.specs.declared.counts.Counts.{Counts}
use Rattle.loaded.specs.Cells.{cells_of, counts_in, no_cells, version}

pub counts_stored : (c : Counts) → counts_in (cells_of c) ≡ c
unfolding counts_in cells_of
counts_stored c = refl

pub version_stored : (c : Counts) → get_or (cells_of c) 0 0 ≡ version
unfolding cells_of
version_stored c = refl

pub none_stored : get_or no_cells 0 0 ≡ 0
unfolding no_cells
none_stored = refl
