-- `reserve::longest::longest` meets its contract. The loop's invariant: the longest among the first t tables. Assumes nothing.
use Prim.Native.Nat.{◌-◌, ◌≤◌}
use mathlib.Core.List.{List}
use mathlib.Core.Path.{◌≡◌}
use Rattle.answer.specs.Reserve.{greatest, whole_lengths}
use Rattle.document.specs.Policy.{Row}
use Rattle.relations.specs.Rows.{Rows}
use Rattle.reserve.proofs.longest.longest.Given as goal

abbrev pub invariant-loop-t : goal.invariant-loop-t
invariant-loop-t l = (l.t ≤ l.k) × ((rs : List Row) → Rows l.text l.rows l.count rs → l.best ≡ greatest (whole_lengths rs l.t))
