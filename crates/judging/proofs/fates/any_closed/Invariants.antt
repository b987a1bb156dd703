-- `judging::fates::any_closed` meets its contract. The loop's invariant: whether one of the columns from i on is
-- closed is whether one of them all is. Assumes nothing.
use Prim.Native.Nat.{◌<◌, ◌≤◌}
use Rattle.judging.specs.Marking.{open_under}
use Rattle.lists.specs.Lists.{any_of}
use Rattle.relations.specs.Rows.{label_count_in, label_room, labels_in}
use lib.ListN.{drop}
use mathlib.Core.Bool.{not}
use mathlib.Core.Path.{◌≡◌}
use Rattle.judging.proofs.fates.any_closed.Given as goal

abbrev pub invariant-loop-i : goal.invariant-loop-i
invariant-loop-i l = (l.r < 1024 → label_count_in l.rows l.r ≤ label_room → any_of (λ k. not (open_under l.said l.m (labels_in l.rows l.r) k)) (drop l.i l.columns) ≡ any_of (λ k. not (open_under l.said l.m (labels_in l.rows l.r) k)) l.columns)
