-- `resolving::columns::resolve_in` meets its contract. The loop's invariant: the words before the loop's place are resolved.
-- Assumes nothing.
use Prim.Native.Nat.{◌-◌, ◌<◌, ◌≤◌, ℕ}
use lib.ListN.{length}
use mathlib.Core.Path.{◌≡◌}
use Rattle.document.specs.Lookup.{columns_at}
use Rattle.document.specs.Policy.{Policy}
use Rattle.relations.specs.Tables.{Tables}
use Rattle.resolving.proofs.Resolving.{Resolving}
use Rattle.resolving.proofs.columns.resolve_in.Given as goal

abbrev pub invariant-loop-i : goal.invariant-loop-i
invariant-loop-i l = (l.i ≤ l.n) × (length l.columns ≡ length l.initial.columns) × ((d : Policy) (k : ℕ) → Tables l.text l.tables k d.tables → l.t < k → l.n ≤ length l.places → l.n ≤ length l.initial.columns → Resolving (columns_at d l.t) l.query l.n l.places l.columns l.i)
