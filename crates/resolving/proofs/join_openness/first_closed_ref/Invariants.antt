-- `resolving::join_openness::first_closed_ref` meets its contract. The loop's invariant: the columns that were passed are open.
-- Assumes nothing.
use Prim.Native.Nat.{◌-◌, ◌<◌, ◌≤◌, ℕ}
use Rattle.condition.specs.CondForm.{Ref}
use Rattle.document.specs.Lookup.{purpose_of}
use Rattle.document.specs.Policy.{Policy}
use Rattle.lists.specs.Lists.{or_zero}
use Rattle.query.specs.Join.{closed_ref}
use Rattle.query.specs.JoinForm.{JoinForm}
use Rattle.relations.specs.Labels.{Said}
use Rattle.resolving.specs.Joins.{KnowsTables, RefsRead}
use lib.ListN.{get_elem?}
use mathlib.Core.List.{List}
use mathlib.Core.Option.{none, some}
use mathlib.Core.Path.{◌≡◌}
use Rattle.resolving.proofs.join_openness.first_closed_ref.Given as goal

abbrev pub invariant-loop-i : goal.invariant-loop-i
invariant-loop-i l = (l.i ≤ l.n)
    × ((d : Policy) (text s : List ℕ) (k : ℕ) (j : JoinForm) (rs : List Ref) → KnowsTables text l.tables k s l.p d j → Said d (or_zero (purpose_of d j.form.purpose)) l.said → RefsRead d j rs s l.n l.words l.columns
    → (m : ℕ) → m < l.i → (r : Ref) → get_elem? rs m ≡ some r → closed_ref d j r ≡ none)
