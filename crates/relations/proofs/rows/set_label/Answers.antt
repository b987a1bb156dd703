-- `relations::rows::set_label` meets its contract. Assumes nothing.
use mathlib.Core.Path.{◌≡◌}
use lib.ListN.{length}
use native.Mathlib.Omega.{arith}
use Rattle.relations.proofs.RowLaws.{label_stored, no_label}
use borrow.Author.Rules.{rules}
use Rattle.relations.proofs.rows.set_label.Goals as goal

pub returns-then-m-lt-LABEL_ROOM : goal.returns-then-m-lt-LABEL_ROOM
returns-then-m-lt-LABEL_ROOM c = let a = c.args in
    let l : length c.args.ws.now ≡ 36864 = search rules in
    label_stored a.ws.now a.r l c.if-r-lt-ROWS.true a.m a.label c.if-m-lt-LABEL_ROOM.true

pub returns-else-m-lt-LABEL_ROOM : goal.returns-else-m-lt-LABEL_ROOM
returns-else-m-lt-LABEL_ROOM c = let a = c.args in
    no_label a.ws.now a.r a.m a.label (λ l s. omega (arith, s, c.if-m-lt-LABEL_ROOM.false))

pub returns-else-r-lt-ROWS : goal.returns-else-r-lt-ROWS
returns-else-r-lt-ROWS c = let a = c.args in
    no_label a.ws.now a.r a.m a.label (λ l s. omega (arith, l, c.if-r-lt-ROWS.false))
