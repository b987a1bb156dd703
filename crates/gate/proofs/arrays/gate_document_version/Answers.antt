-- `gate::arrays::gate_document_version` meets its contract. Assumes nothing.
use mathlib.Core.Path.{refl}
use Rattle.loaded.specs.Cells.{version}
use Rattle.gate.proofs.arrays.gate_document_version.Goals as goal

pub returns : goal.returns
unfolding version
returns c = refl
