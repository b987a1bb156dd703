-- `tables::label_storing::set_of` meets its contract. The loop's invariant: the set holds the purposes that were passed, and the others are left.
-- Assumes nothing.
use Prim.Native.Nat.{◌-◌}
use lib.ListN.{length}
use Rattle.document.specs.Lookup.{purpose_of}
use Rattle.document.specs.Policy.{Policy}
use Rattle.principals.specs.Nodes.{Nodes}
use Rattle.lists.specs.Lists.{or_zero}
use Rattle.purpose.specs.Members.{limit}
use Rattle.tables.proofs.SetLaws.{Gathered}
use Rattle.tables.proofs.label_storing.set_of.Given as goal

abbrev pub invariant-loop-w : goal.invariant-loop-w
invariant-loop-w l = (d : Policy) → Nodes limit l.text l.purposes l.k d.purposes → Gathered (λ w. or_zero (purpose_of d w)) l.line l.at l.j l.r

abbrev pub decreases-loop-w : goal.decreases-loop-w
decreases-loop-w l = length l.line - l.j
