-- `relations::notes::set_weak` meets its contract. Assumes nothing.
use mathlib.Core.Path.{◌≡◌}
use lib.ListN.{length}
use native.Mathlib.Omega.{arith}
use Rattle.document.specs.Lookup.{weak_in}
use Rattle.form.specs.Form.{weak}
use Rattle.relations.proofs.TableLaws.{not_labelled, weak_stored}
use borrow.Author.Rules.{rules}
use Rattle.relations.proofs.notes.set_weak.Goals as goal

pub returns-then-l-lt-LABELS : goal.returns-then-l-lt-LABELS
returns-then-l-lt-LABELS c m = let a = c.args in
    let l : length c.args.ws.now ≡ 440 = search rules in
    weak_stored a.ws.now a.t a.l l

pub returns-else-l-lt-LABELS : goal.returns-else-l-lt-LABELS
returns-else-l-lt-LABELS c m = absurd (omega (arith, m, c.if-l-lt-LABELS.false))

pub returns-else-t-lt-TABLES : goal.returns-else-t-lt-TABLES
returns-else-t-lt-TABLES c m = let a = c.args in
    not_labelled a.ws.now a.t (weak a.l) weak_in (λ l. omega (arith, l, c.if-t-lt-TABLES.false))
