-- `program::running::run_program` meets its contract. The loop's invariant: the steps from j on, where j is next, come to what
-- all of them come to. Assumes nothing.
use Prim.Native.Nat.{◌-◌}
use mathlib.Core.Path.{◌≡◌}
use Rattle.program.proofs.RunLaws.{all_steps, from_step}
use Rattle.program.specs.Program.{truth_in}
use Rattle.program.proofs.running.run_program.Given as goal

abbrev pub invariant-loop-j : goal.invariant-loop-j
invariant-loop-j l = all_steps (truth_in l.evens l.odds) l.trues l.falses l.flips l.m ≡ from_step (truth_in l.evens l.odds) l.trues l.falses l.flips l.m l.j l.j

abbrev pub decreases-loop-j : goal.decreases-loop-j
decreases-loop-j l = l.m - l.j
