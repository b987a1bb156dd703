-- `judging::fates::judge_each` meets its contract. The loop's invariant: the rows gone through are judged. Assumes nothing.
use Prim.Native.Nat.{◌-◌, ◌≤◌}
use Rattle.judging.proofs.FateLaws.{Fewer}
use Rattle.judging.specs.Judging.{Judgeable, JudgedTo}
use Rattle.document.specs.Policy.{Doc}
use Rattle.relations.specs.Rows.{row_in}
use Rattle.query.specs.Query.{Query}
use lib.ListN.{length}
use mathlib.Core.Path.{◌≡◌}
use Rattle.judging.proofs.fates.judge_each.Given as goal

abbrev pub invariant-loop-r : goal.invariant-loop-r
invariant-loop-r l = (l.r ≤ l.count) × (length l.marks ≡ length l.initial.marks) × Fewer l.r l.x × ((d : Doc) (q : Query) → Judgeable l.text l.rows l.count l.said l.query l.s l.first l.scheme l.columns l.tests d q → JudgedTo d q (row_in l.text l.rows) l.r l.marks l.x)
