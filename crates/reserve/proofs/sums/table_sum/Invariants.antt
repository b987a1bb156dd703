-- `reserve::sums::table_sum` meets its contract. The loop's invariant: the sum is that of the table's rows among the first r. Assumes nothing.
use Prim.Native.Nat.{◌*◌, ◌-◌, ◌≤◌}
use mathlib.Core.List.{List}
use Rattle.answer.specs.Seen.{rows_in}
use Rattle.document.specs.Policy.{Row}
use Rattle.relations.specs.Rows.{Rows}
use Rattle.reserve.specs.Sums.{Sums}
use Rattle.reserve.proofs.sums.table_sum.Given as goal

abbrev pub invariant-loop-r : goal.invariant-loop-r
invariant-loop-r l = (l.r ≤ l.count) × (l.s.count ≤ l.r) × (l.s.bytes ≤ l.r * 960022) × ((rs : List Row) → Rows l.text l.rows l.r rs → Sums (rows_in l.t rs) l.s)
