-- `purpose::contains` meets its contract. Assumes nothing.
use mathlib.Core.Path.{◌≡◌, sym, ◌∙◌}
use lib.ListN.{length}
use native.Mathlib.Omega.{arith}
use borrow.Author.Rules.{rules}
use Rattle.purpose.specs.Members.{words, has}
use Rattle.purpose.proofs.Words.{member_members, has_past}
use Rattle.purpose.proofs.contains.Goals as goal

pub returns-then-p-lt-LIMIT : goal.returns-then-p-lt-LIMIT
unfolding has
returns-then-p-lt-LIMIT c = sym (member_members c.args.s c.args.p)

pub returns-else-p-lt-LIMIT : goal.returns-else-p-lt-LIMIT
returns-else-p-lt-LIMIT c = let l : length c.args.s ≡ words = search rules in
    sym (member_members c.args.s c.args.p ∙ has_past c.args.s c.args.p (omega arith))
