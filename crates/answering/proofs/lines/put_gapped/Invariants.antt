-- `answering::lines::put_gapped` meets its contract. The loop's invariant: to write the values from column i on comes to the
-- same as to write them all at the start, and the sizes that are kept are those of the values. Assumes nothing.
use Prim.Native.Nat.{◌-◌, ◌≤◌}
use Rattle.answer.specs.Exactly.{with_gaps}
use Rattle.answering.specs.Lines.{Sizes, spaced_values, values_in}
use Rattle.judging.specs.Marking.{open_under}
use Rattle.relations.specs.Rows.{label_count_in, label_room, labels_in}
use Rattle.writing.proofs.Writing as w
use lib.ListN.{drop, length}
use mathlib.Core.Path.{◌≡◌}
use Rattle.answering.proofs.lines.put_gapped.Given as goal

abbrev pub invariant-loop-i : goal.invariant-loop-i
invariant-loop-i l = Sizes (values_in l.text l.rows l.r l.width) l.sizes × (length l.out ≡ length l.initial.out)
    × (label_count_in l.rows l.r ≤ label_room → w.Ahead l.initial.out l.at (spaced_values l.columns (with_gaps (open_under l.said l.own (labels_in l.rows l.r)) 0 (values_in l.text l.rows l.r l.width))) l.out l.to (spaced_values (drop l.i l.columns) (with_gaps (open_under l.said l.own (labels_in l.rows l.r)) 0 (values_in l.text l.rows l.r l.width))))
