-- `purpose::insert` meets its contract. Assumes nothing.
use Prim.Native.Nat.{◌%◌}
use mathlib.Core.Path.{◌≡◌}
use lib.ListN.{length}
use native.Mathlib.Omega.{arith}
use borrow.Author.Rules.{rules}
use borrow.Author.Tests.{lt-ltb, le-ltb}
use Rattle.purpose.specs.Members.{words, limit}
use Rattle.purpose.proofs.Words.{member_insert}
use Rattle.purpose.proofs.Bits.{one_shl}
use Rattle.purpose.proofs.insert.Goals as goal

pub returns-then-p-lt-LIMIT : goal.returns-then-p-lt-LIMIT
returns-then-p-lt-LIMIT c i = let l : length c.args.s ≡ words = search rules in
    rw (lt-ltb c.args.p limit c.if-p-lt-LIMIT.true)
    (member_insert c.args.s c.args.p _ (omega arith) (one_shl (c.args.p % 64) 64 (omega arith)) i)

pub returns-else-p-lt-LIMIT : goal.returns-else-p-lt-LIMIT
returns-else-p-lt-LIMIT c i = rw (le-ltb c.args.p limit c.if-p-lt-LIMIT.false)
