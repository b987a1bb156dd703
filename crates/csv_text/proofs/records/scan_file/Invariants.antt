-- `csv_text::records::scan_file` meets its contract. The loop's invariant: what is counted, and what comes from the records from the
-- loop's place on, is what the whole file comes to. Assumes nothing.
use Prim.Native.Nat.{◌-◌}
use Rattle.csv_text.proofs.ScanLaws.{Widely}
use lib.ListN.{length}
use Rattle.csv_text.proofs.records.scan_file.Given as goal

abbrev pub invariant-loop-i : goal.invariant-loop-i
invariant-loop-i l = Widely l.s l.w l.i l.count l.size l.unfit

abbrev pub decreases-loop-i : goal.decreases-loop-i
decreases-loop-i l = length l.s - l.i
