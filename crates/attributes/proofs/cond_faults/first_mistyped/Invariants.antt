-- `attributes::cond_faults::first_mistyped` meets its contract. The loop's invariant: the comparisons that were passed are of the right type.
-- Assumes nothing.
use Prim.Native.Nat.{◌-◌, ◌<◌, ◌≤◌, ℕ}
use lib.ListN.{get_or}
use mathlib.Core.Option.{none}
use mathlib.Core.Path.{◌≡◌}
use Rattle.condition.specs.Answers.{compared_at}
use Rattle.condition.specs.CondForm.{mistyped}
use Rattle.document.specs.Lookup.{attribute_kind}
use Rattle.document.specs.Policy.{Policy}
use Rattle.principals.specs.Attributes.{Attributes}
use Rattle.text.specs.Walking.{next_word}
use Rattle.text.specs.Words.{word_of}
use Rattle.attributes.proofs.cond_faults.first_mistyped.Given as goal

abbrev pub invariant-loop-j : goal.invariant-loop-j
invariant-loop-j l = (l.j ≤ l.count) × ((d : Policy) → Attributes l.text l.attributes l.n d.attributes → (i : ℕ) → i < l.j → mistyped (attribute_kind d (word_of l.line (next_word l.line (get_or l.ops i 0)))) (compared_at l.line (get_or l.ops i 0)) ≡ none)
