-- `purpose::unite` meets its contract. The loop's invariant: the words passed are or-ed. Assumes nothing.
use mathlib.Core.Path.{◌≡◌}
use lib.ListN.{length, length-set}
use native.Mathlib.Omega.{arith}
use borrow.Author.Rules.{rules}
use Rattle.purpose.specs.Members.{words}
use Rattle.purpose.proofs.Words.{united_none, united_more, united_all}
use Rattle.purpose.proofs.unite.Goals as goal

pub loop-k-init : goal.loop-k-init
loop-k-init c = (omega arith, search rules, united_none c.args.a c.args.b)

pub loop-k-preserved : goal.loop-k-preserved
loop-k-preserved c = let inv = c.loop-k.invariant in
    (omega arith, simp length-set inv.1, united_more c.args.a c.args.b c.loop-k.r c.loop-k.k (omega arith) inv.2)

pub returns : goal.returns
returns c = let l : length c.args.b ≡ words = search rules in
    united_all c.args.a c.args.b c.loop-k.r c.loop-k.k (omega arith) c.loop-k.invariant.2
