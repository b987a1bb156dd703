-- `relations::tables::add_table` meets its contract. Assumes nothing.
use Prim.Native.Nat.{◌+◌, ◌<◌, ℕ}
use mathlib.Core.List.{List}
use lib.Seq.{lt-length-set}
use mathlib.Core.Path.{◌≡◌}
use lib.ListN.{length, set}
use native.Mathlib.Omega.{arith}
use Rattle.relations.proofs.TableLaws.{added, not_added}
use borrow.Author.Rules.{rules}
use Rattle.relations.proofs.tables.add_table.Goals as goal

-- a place within the array is within it when four numbers are stored
four_long : (ws : List ℕ) (k pos number label c n : ℕ) → n < length ws → n < length (set (set (set (set ws k pos) (8 + k) number) (16 + k) label) (24 + k) c)
four_long ws k pos number label c n l =
    lt-length-set (set (set (set ws k pos) (8 + k) number) (16 + k) label) (24 + k) c
    (lt-length-set (set (set ws k pos) (8 + k) number) (16 + k) label
    (lt-length-set (set ws k pos) (8 + k) number
    (lt-length-set ws k pos l)))

pub bounds-cells-k-then-k-lt-TABLES : goal.bounds-cells-k-then-k-lt-TABLES
bounds-cells-k-then-k-lt-TABLES c = let a = c.args in
    let l : length c.args.ws.now ≡ 440 = search rules in
    lt-length-set a.ws.now a.k a.pos (omega arith)

pub bounds-cells-k-then-k-lt-TABLES-2 : goal.bounds-cells-k-then-k-lt-TABLES-2
bounds-cells-k-then-k-lt-TABLES-2 c = let a = c.args in
    let l : length c.args.ws.now ≡ 440 = search rules in
    lt-length-set (set a.ws.now a.k a.pos) (8 + a.k) c.scheme_cell-code.result (lt-length-set a.ws.now a.k a.pos (omega arith))

pub bounds-cells-k-then-k-lt-TABLES-3 : goal.bounds-cells-k-then-k-lt-TABLES-3
bounds-cells-k-then-k-lt-TABLES-3 c = let a = c.args in
    let l : length c.args.ws.now ≡ 440 = search rules in
    let w = set a.ws.now a.k a.pos in
    lt-length-set (set w (8 + a.k) c.scheme_cell-code.result) (16 + a.k) a.label (lt-length-set w (8 + a.k) c.scheme_cell-code.result (lt-length-set a.ws.now a.k a.pos (omega arith)))

pub bounds-cells-k-then-k-lt-TABLES-4 : goal.bounds-cells-k-then-k-lt-TABLES-4
bounds-cells-k-then-k-lt-TABLES-4 c = let a = c.args in
    let l : length c.args.ws.now ≡ 440 = search rules in
    let w = set a.ws.now a.k a.pos in
    let v = set w (8 + a.k) c.scheme_cell-code.result in
    lt-length-set (set v (16 + a.k) a.label) (24 + a.k) a.width (lt-length-set v (16 + a.k) a.label (lt-length-set w (8 + a.k) c.scheme_cell-code.result (lt-length-set a.ws.now a.k a.pos (omega arith))))

pub bounds-cells-k-then-k-lt-TABLES-5 : goal.bounds-cells-k-then-k-lt-TABLES-5
bounds-cells-k-then-k-lt-TABLES-5 c = let a = c.args in
    let l : length c.args.ws.now ≡ 440 = search rules in
    let w = set (set (set (set a.ws.now a.k a.pos) (8 + a.k) c.scheme_cell-code.result) (16 + a.k) a.label) (24 + a.k) a.width in
    lt-length-set w (416 + a.k) 0 (four_long a.ws.now a.k a.pos c.scheme_cell-code.result a.label a.width (424 + a.k) (omega (arith, l, c.if-k-lt-TABLES.true)))

pub bounds-cells-k-then-k-lt-TABLES-6 : goal.bounds-cells-k-then-k-lt-TABLES-6
bounds-cells-k-then-k-lt-TABLES-6 c = let a = c.args in
    let l : length c.args.ws.now ≡ 440 = search rules in
    let w = set (set (set (set a.ws.now a.k a.pos) (8 + a.k) c.scheme_cell-code.result) (16 + a.k) a.label) (24 + a.k) a.width in
    lt-length-set (set w (416 + a.k) 0) (424 + a.k) 0 (lt-length-set w (416 + a.k) 0 (four_long a.ws.now a.k a.pos c.scheme_cell-code.result a.label a.width (432 + a.k) (omega (arith, l, c.if-k-lt-TABLES.true))))

pub returns-then-k-lt-TABLES : goal.returns-then-k-lt-TABLES
returns-then-k-lt-TABLES c = let a = c.args in
    let l : length c.args.ws.now ≡ 440 = search rules in
    added a.ws.now a.k a.pos c.scheme_cell-code.result a.label a.width l c.if-k-lt-TABLES.true a.scheme (c.scheme_cell-code.ensures a.label)

pub returns-else-k-lt-TABLES : goal.returns-else-k-lt-TABLES
returns-else-k-lt-TABLES c = let a = c.args in
    not_added a.ws.now a.k a.pos a.scheme a.label a.width (λ l. omega (arith, l, c.if-k-lt-TABLES.false))
