-- `relations::tables::set_column` meets its contract. Assumes nothing.
use Prim.Native.Nat.{◌*◌, ◌+◌}
use lib.Seq.{lt-length-set}
use mathlib.Core.Path.{◌≡◌}
use lib.ListN.{length, set}
use native.Mathlib.Omega.{arith}
use Rattle.condition.specs.Answers.{kind_of}
use Rattle.relations.proofs.TableLaws.{column_stored, no_column}
use borrow.Author.Rules.{rules}
use Rattle.relations.proofs.tables.set_column.Goals as goal

pub bounds-cells-t-then-c-lt-COLUMNS : goal.bounds-cells-t-then-c-lt-COLUMNS
bounds-cells-t-then-c-lt-COLUMNS c = let a = c.args in
    let l : length c.args.ws.now ≡ 440 = search rules in
    lt-length-set a.ws.now (32 + 16 * a.t + a.c) a.pos (omega arith)

pub bounds-cells-t-then-c-lt-COLUMNS-2 : goal.bounds-cells-t-then-c-lt-COLUMNS-2
bounds-cells-t-then-c-lt-COLUMNS-2 c = let a = c.args in
    let l : length c.args.ws.now ≡ 440 = search rules in
    lt-length-set (set a.ws.now (32 + 16 * a.t + a.c) a.pos) (160 + 16 * a.t + a.c) c.kind_cell-code.result (lt-length-set a.ws.now (32 + 16 * a.t + a.c) a.pos (omega arith))

pub returns-then-c-lt-COLUMNS : goal.returns-then-c-lt-COLUMNS
returns-then-c-lt-COLUMNS c = let a = c.args in
    let l : length c.args.ws.now ≡ 440 = search rules in
    column_stored a.ws.now a.t a.c a.pos c.kind_cell-code.result a.label l c.if-t-lt-TABLES.true c.if-c-lt-COLUMNS.true (kind_of a.kind) c.kind_cell-code.ensures

pub returns-else-c-lt-COLUMNS : goal.returns-else-c-lt-COLUMNS
returns-else-c-lt-COLUMNS c = let a = c.args in
    no_column a.ws.now a.t a.c a.pos (kind_of a.kind) a.label (λ l s. omega (arith, s, c.if-c-lt-COLUMNS.false))

pub returns-else-t-lt-TABLES : goal.returns-else-t-lt-TABLES
returns-else-t-lt-TABLES c = let a = c.args in
    no_column a.ws.now a.t a.c a.pos (kind_of a.kind) a.label (λ l s. omega (arith, l, c.if-t-lt-TABLES.false))
