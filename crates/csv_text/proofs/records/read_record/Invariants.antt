-- `csv_text::records::read_record` meets its contract. The loop's invariant: what is gathered, and what comes from the fields from the
-- loop's place on, is what the whole record comes to. Assumes nothing.
use Prim.Native.Nat.{◌-◌}
use Rattle.csv_text.proofs.RecordLaws.{Gathering}
use lib.ListN.{length}
use Rattle.csv_text.proofs.records.read_record.Given as goal

abbrev pub invariant-loop-e : goal.invariant-loop-e
invariant-loop-e l = Gathering l.s l.at l.i l.count l.size l.unfit

abbrev pub decreases-loop-e : goal.decreases-loop-e
decreases-loop-e l = length l.s - l.i
