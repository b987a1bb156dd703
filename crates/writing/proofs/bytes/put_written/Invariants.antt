-- `writing::bytes::put_written` meets its contract. The loop's invariant: to write the value from the loop's place on comes to
-- the same as to write the whole value at the start. Assumes nothing.
use Prim.Native.Nat.{◌-◌, ◌≤◌}
use Rattle.writing.proofs.Writing as w
use Rattle.text.specs.Words.{written_at}
use lib.ListN.{drop, take}
use Rattle.writing.proofs.bytes.put_written.Given as goal

abbrev pub invariant-loop-i : goal.invariant-loop-i
invariant-loop-i l = (l.start ≤ l.i) × w.Ahead l.initial.out l.at (written_at l.text l.start) l.out l.to (take (l.end - l.i) (drop l.i l.text))
