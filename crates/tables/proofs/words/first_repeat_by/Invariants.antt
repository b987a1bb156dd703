-- `tables::words::first_repeat_by` meets its contract. The loop's invariant: k names were passed, none of them repeats another, what repeats
-- one from the start on is what does from the loop's place on, and the names that were passed were met. Assumes nothing.
use Prim.Native.Nat.{◌-◌}
use lib.ListN.{length, take}
use mathlib.Core.Path.{◌≡◌}
use Rattle.tables.proofs.NameWalks.{Repeats}
use Rattle.form.specs.Walks.{names_at}
use Rattle.workspace.specs.Met.{Met}
use Rattle.tables.proofs.words.first_repeat_by.Given as goal

abbrev pub invariant-loop-v : goal.invariant-loop-v
invariant-loop-v l = Repeats l.line l.at l.j l.k × Met l.met (take l.k (names_at l.line l.at)) × (length l.met ≡ length l.initial.met)

abbrev pub decreases-loop-v : goal.decreases-loop-v
decreases-loop-v l = length l.line - l.j
