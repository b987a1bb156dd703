-- `ranging::join_ranged::first_ranged_ref` meets its contract. The loop's invariant: the columns that were passed have no range.
-- Assumes nothing.
use Prim.Native.Nat.{◌-◌, ◌<◌, ◌≤◌, ℕ}
use Rattle.answer.specs.Ranged.{ranged_ref}
use Rattle.condition.specs.CondForm.{Ref}
use Rattle.document.specs.Policy.{Doc}
use Rattle.query.specs.JoinForm.{JoinForm, join_refs}
use Rattle.relations.specs.Rows.{Rows}
use Rattle.resolving.specs.Joins.{KnowsTables, RefsRead}
use lib.ListN.{get_elem?}
use mathlib.Core.List.{List}
use mathlib.Core.Option.{none, some}
use mathlib.Core.Path.{◌≡◌}
use Rattle.ranging.proofs.join_ranged.first_ranged_ref.Given as goal

abbrev pub invariant-loop-i : goal.invariant-loop-i
invariant-loop-i l = (l.i ≤ l.n)
    × ((d : Doc) (s : List ℕ) (k : ℕ) (j : JoinForm) → KnowsTables l.text l.tables k s l.p d.policy j → Rows l.text l.rows l.count d.rows → RefsRead d.policy j (join_refs j) s l.n l.words l.columns
    → (m : ℕ) → m < l.i → (r : Ref) → get_elem? (join_refs j) m ≡ some r → ranged_ref d j r ≡ none)
