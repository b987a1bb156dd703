-- `relations::notes::set_strong` meets its contract. Assumes nothing.
use mathlib.Core.Path.{◌≡◌}
use lib.ListN.{length}
use native.Mathlib.Omega.{arith}
use Rattle.document.specs.Lookup.{strong_in}
use Rattle.form.specs.Form.{strong}
use Rattle.relations.proofs.TableLaws.{not_labelled, strong_stored}
use borrow.Author.Rules.{rules}
use Rattle.relations.proofs.notes.set_strong.Goals as goal

pub returns-then-l-lt-LABELS : goal.returns-then-l-lt-LABELS
returns-then-l-lt-LABELS c m = let a = c.args in
    let l : length c.args.ws.now ≡ 440 = search rules in
    strong_stored a.ws.now a.t a.l l

pub returns-else-l-lt-LABELS : goal.returns-else-l-lt-LABELS
returns-else-l-lt-LABELS c m = absurd (omega (arith, m, c.if-l-lt-LABELS.false))

pub returns-else-t-lt-TABLES : goal.returns-else-t-lt-TABLES
returns-else-t-lt-TABLES c m = let a = c.args in
    not_labelled a.ws.now a.t (strong a.l) strong_in (λ l. omega (arith, l, c.if-t-lt-TABLES.false))
