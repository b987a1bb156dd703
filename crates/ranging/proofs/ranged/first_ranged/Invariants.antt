-- `ranging::ranged::first_ranged` meets its contract. The loop's invariant: the columns that were passed have no range. Assumes nothing.
use Prim.Native.Nat.{◌-◌, ◌<◌, ◌≤◌, ℕ}
use Rattle.document.specs.Policy.{Doc}
use Rattle.ranging.proofs.RangedLaws.{NamedColumns}
use Rattle.ranging.specs.Promises.{plain_at}
use Rattle.text.specs.Words.{word_of}
use lib.ListN.{get_or}
use mathlib.Core.Bool.{true}
use mathlib.Core.List.{List}
use mathlib.Core.Path.{◌≡◌}
use Rattle.ranging.proofs.ranged.first_ranged.Given as goal

abbrev pub invariant-loop-i : goal.invariant-loop-i
invariant-loop-i l = (l.i ≤ l.n) × ((d : Doc) (s : List ℕ) → NamedColumns l.text l.rows l.count l.t l.places l.n l.columns d s → (j : ℕ) → j < l.i → plain_at d l.t (word_of s (get_or l.places j 0)) ≡ true)
