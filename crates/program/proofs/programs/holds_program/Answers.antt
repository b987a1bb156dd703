-- `program::programs::holds_program` meets its contract. Assumes nothing.
use Prim.Native.Nat.{ℕ}
use lib.Dec.{eqb}
use mathlib.Core.Path.{ap}
use Rattle.program.specs.Program.{room}
use Rattle.program.proofs.programs.holds_program.Goals as goal

pub returns : goal.returns
returns c = ap (λ (t : ℕ). eqb t room) c.run_program.ensures
