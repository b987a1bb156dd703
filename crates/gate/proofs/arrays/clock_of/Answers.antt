-- `gate::arrays::clock_of` meets its contract. Assumes nothing.
use Rattle.gate.specs.Arrays.{clock_in}
use Rattle.query.specs.HostClock.{clock_of}
use mathlib.Core.Path.{refl}
use Rattle.gate.proofs.arrays.clock_of.Goals as goal

pub returns : goal.returns
unfolding clock_of clock_in
returns c = refl
