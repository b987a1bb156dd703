-- `attributes::cond_faults::first_unusable` meets its contract. The loop's invariant: the attributes that were passed are usable. Assumes nothing.
use Prim.Native.Nat.{◌-◌, ◌<◌, ◌≤◌, ℕ}
use lib.ListN.{get_or}
use mathlib.Core.Bool.{true}
use mathlib.Core.Path.{◌≡◌}
use Rattle.document.specs.NameFaults.{usable_for}
use Rattle.document.specs.Policy.{Policy}
use Rattle.principals.specs.Attributes.{Attributes}
use Rattle.principals.specs.Nodes.{Nodes}
use Rattle.text.specs.Walking.{next_word}
use Rattle.text.specs.Words.{word_of}
use Rattle.attributes.proofs.cond_faults.first_unusable.Given as goal

abbrev pub invariant-loop-j : goal.invariant-loop-j
invariant-loop-j l = (l.j ≤ l.count) × ((d : Policy) → Nodes 64 l.text l.roles l.m d.roles → Attributes l.text l.attributes l.n d.attributes → (i : ℕ) → i < l.j → usable_for d l.role (word_of l.line (next_word l.line (get_or l.ops i 0))) ≡ true)
