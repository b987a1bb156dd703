-- `relations::notes::set_public` meets its contract. Assumes nothing.
use mathlib.Core.Path.{◌≡◌}
use lib.ListN.{length}
use native.Mathlib.Omega.{arith}
use Rattle.relations.proofs.TableLaws.{not_public, public_stored}
use borrow.Author.Rules.{rules}
use Rattle.relations.proofs.notes.set_public.Goals as goal

pub returns-then-t-lt-TABLES : goal.returns-then-t-lt-TABLES
returns-then-t-lt-TABLES c = let a = c.args in
    let l : length c.args.ws.now ≡ 440 = search rules in
    public_stored a.ws.now a.t l

pub returns-else-t-lt-TABLES : goal.returns-else-t-lt-TABLES
returns-else-t-lt-TABLES c = let a = c.args in
    not_public a.ws.now a.t (λ l. omega (arith, l, c.if-t-lt-TABLES.false))
