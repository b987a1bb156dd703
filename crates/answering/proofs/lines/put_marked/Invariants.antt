-- `answering::lines::put_marked` meets its contract. The loop's invariant: the lines of the first r rows are written.
-- Assumes nothing.
use Prim.Native.Nat.{◌-◌, ◌≤◌}
use lib.ListN.{length}
use mathlib.Core.Path.{◌≡◌}
use Rattle.answering.specs.Lines.{lines_marked, row_shown}
use Rattle.document.specs.Policy.{Doc}
use Rattle.relations.specs.Rows.{Rows}
use Rattle.writing.specs.Write.{Wrote}
use Rattle.answering.proofs.lines.put_marked.Given as goal

abbrev pub invariant-loop-r : goal.invariant-loop-r
invariant-loop-r l = (l.r ≤ l.count) × (length l.out ≡ length l.initial.out) × ((d : Doc) → Rows l.text l.rows l.count d.rows → Wrote l.initial.out 0 (lines_marked (row_shown l.said l.m l.text l.rows l.gaps) l.columns l.marks l.r) l.out l.to)
