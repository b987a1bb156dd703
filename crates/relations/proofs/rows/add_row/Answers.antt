-- `relations::rows::add_row` meets its contract. Assumes nothing.
use Prim.Native.Nat.{◌+◌}
use lib.Seq.{lt-length-set}
use mathlib.Core.Path.{◌≡◌}
use lib.ListN.{length, set}
use native.Mathlib.Omega.{arith}
use Rattle.relations.proofs.RowLaws.{row_added}
use borrow.Author.Rules.{rules}
use Rattle.relations.proofs.rows.add_row.Goals as goal

pub bounds-cells-k-then-k-lt-ROWS : goal.bounds-cells-k-then-k-lt-ROWS
bounds-cells-k-then-k-lt-ROWS c = let a = c.args in
    let l : length c.args.ws.now ≡ 36864 = search rules in
    lt-length-set a.ws.now a.k a.table (omega arith)

pub bounds-cells-k-then-k-lt-ROWS-2 : goal.bounds-cells-k-then-k-lt-ROWS-2
bounds-cells-k-then-k-lt-ROWS-2 c = let a = c.args in
    let l : length c.args.ws.now ≡ 36864 = search rules in
    lt-length-set (set a.ws.now a.k a.table) (1024 + a.k) a.values (lt-length-set a.ws.now a.k a.table (omega arith))

pub returns-then-k-lt-ROWS : goal.returns-then-k-lt-ROWS
returns-then-k-lt-ROWS c text rs vs ls h b f = let a = c.args in
    let l : length c.args.ws.now ≡ 36864 = search rules in
    row_added a.ws.now a.k a.table a.values a.labels l b text rs vs ls h f

pub returns-else-k-lt-ROWS : goal.returns-else-k-lt-ROWS
returns-else-k-lt-ROWS c text rs vs ls h b f = absurd (omega (arith, b, c.if-k-lt-ROWS.false))
