-- `tables::table_faults::stands_among` meets its contract. The loop's invariant: whether the name is one of those that were to be looked at is
-- whether it is one of those that are left. Assumes nothing.
use Prim.Native.Nat.{◌-◌}
use lib.ListN.{length, take}
use mathlib.Core.Path.{◌≡◌}
use Rattle.tables.proofs.TableLineLaws.{column_names}
use Rattle.tables.specs.TableLine.{columns_by}
use Rattle.lists.specs.Lists.{any_of}
use Rattle.text.specs.Words.{Word, is_called, word_of}
use Rattle.tables.proofs.table_faults.stands_among.Given as goal

abbrev pub invariant-loop-at : goal.invariant-loop-at
invariant-loop-at l = any_of (λ (v : Word). is_called (word_of l.s l.p) v.bytes) (take l.n (column_names (columns_by l.triple l.s l.at))) ≡ any_of (λ (v : Word). is_called (word_of l.s l.p) v.bytes) (take l.left (column_names (columns_by l.triple l.s l.j)))

abbrev pub decreases-loop-at : goal.decreases-loop-at
decreases-loop-at l = length l.s - l.j
