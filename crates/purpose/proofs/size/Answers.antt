-- `purpose::size` meets its contract. Assumes nothing.
use mathlib.Core.Path.{◌≡◌}
use lib.ListN.{length, length-take}
use native.Mathlib.Omega.{arith}
use borrow.Author.Rules.{rules}
use Rattle.purpose.specs.Members.{limit}
use Rattle.purpose.proofs.size.Goals as goal

pub returns-then-n-lt-LIMIT : goal.returns-then-n-lt-LIMIT
returns-then-n-lt-LIMIT c = let l : length c.args.t.parents ≡ limit = search rules in
    (rw length-take (omega arith), omega arith)

pub returns-else-n-lt-LIMIT : goal.returns-else-n-lt-LIMIT
returns-else-n-lt-LIMIT c = let l : length c.args.t.parents ≡ limit = search rules in
    (rw length-take (omega arith), omega arith)
