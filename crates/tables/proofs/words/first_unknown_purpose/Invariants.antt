-- `tables::words::first_unknown_purpose` meets its contract. The loop's invariant: what is unknown from the start on is what is unknown from
-- the loop's place on. Assumes nothing.
use Prim.Native.Nat.{◌-◌}
use lib.ListN.{length}
use mathlib.Core.List.{List}
use mathlib.Core.Path.{◌≡◌}
use Rattle.document.specs.Policy.{Node}
use Rattle.nodes.proofs.NodeFaults.{is_node}
use Rattle.form.specs.Walks.{names_at}
use Rattle.principals.specs.Nodes.{Nodes}
use Rattle.purpose.specs.Members.{limit}
use Rattle.text.specs.Offending.{missing}
use Rattle.tables.proofs.words.first_unknown_purpose.Given as goal

abbrev pub invariant-loop-v : goal.invariant-loop-v
invariant-loop-v l = (ns : List Node) → Nodes limit l.text l.purposes l.k ns → missing (is_node ns) (names_at l.line l.j) ≡ missing (is_node ns) (names_at l.line l.at)

abbrev pub decreases-loop-v : goal.decreases-loop-v
decreases-loop-v l = length l.line - l.j
