-- `rows::items::values_fit` meets its contract. The loop's invariant: with the items passed, those left are as many as wanted
-- exactly when all are. Assumes nothing.
use Prim.Native.Nat.{◌-◌, ◌≤◌}
use lib.ListN.{length}
use mathlib.Core.Path.{◌≡◌}
use lib.Dec.{eqb}
use Rattle.document.specs.ValueFaults.{shaped_values}
use Rattle.lists.specs.Lists.{holds_of}
use Rattle.form.specs.Walks.{items_at}
use Rattle.rows.proofs.RowItems.{count_fits}
use Rattle.rows.proofs.items.values_fit.Given as goal

abbrev pub invariant-loop-at : goal.invariant-loop-at
invariant-loop-at l = (l.n ≤ l.i) × (holds_of (λ ws. eqb (length ws) l.width) (shaped_values l.bracketed (items_at l.line l.at)) ≡ count_fits l.n l.width (shaped_values l.bracketed (items_at l.line l.i)))

abbrev pub decreases-loop-at : goal.decreases-loop-at
decreases-loop-at l = length l.line - l.i
