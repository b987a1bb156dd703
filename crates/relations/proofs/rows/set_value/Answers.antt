-- `relations::rows::set_value` meets its contract. Assumes nothing.
use mathlib.Core.Path.{◌≡◌}
use lib.ListN.{length}
use native.Mathlib.Omega.{arith}
use Rattle.relations.proofs.RowLaws.{no_value_lem, value_stored}
use borrow.Author.Rules.{rules}
use Rattle.relations.proofs.rows.set_value.Goals as goal

pub returns-then-c-lt-COLUMNS : goal.returns-then-c-lt-COLUMNS
returns-then-c-lt-COLUMNS c = let a = c.args in
    let l : length c.args.ws.now ≡ 36864 = search rules in
    value_stored a.ws.now a.r l c.if-r-lt-ROWS.true a.c a.pos c.if-c-lt-COLUMNS.true

pub returns-else-c-lt-COLUMNS : goal.returns-else-c-lt-COLUMNS
returns-else-c-lt-COLUMNS c = let a = c.args in
    no_value_lem a.ws.now a.r a.c a.pos (λ l s. omega (arith, s, c.if-c-lt-COLUMNS.false))

pub returns-else-r-lt-ROWS : goal.returns-else-r-lt-ROWS
returns-else-r-lt-ROWS c = let a = c.args in
    no_value_lem a.ws.now a.r a.c a.pos (λ l s. omega (arith, l, c.if-r-lt-ROWS.false))
