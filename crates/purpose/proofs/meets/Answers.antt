-- `purpose::meets` meets its contract. The loop's invariant: the words passed have no bit in common. Assumes nothing.
use mathlib.Core.Path.{◌≡◌, sym}
use lib.ListN.{length, get_or}
use mir.Syntax.{w64}
use mir.Val.{Fits}
use native.Mathlib.Omega.{arith}
use borrow.Author.Rules.{rules}
use borrow.Author.Count.{below_more}
use Rattle.purpose.specs.Members.{words}
use Rattle.purpose.proofs.Words.{meet_some, meet_none}
use Rattle.purpose.proofs.meets.Goals as goal

pub returns-then-a-k-ne0 : goal.returns-then-a-k-ne0
returns-then-a-k-ne0 c = let at = c.loop-k.k in
    let word : Fits w64 (get_or c.args.a c.loop-k.k 0) = search rules in
    sym (meet_some c.args.a c.args.b at word.fits c.if-a-k-ne0.true)

pub loop-k-preserved : goal.loop-k-preserved
loop-k-preserved c = (search rules, below_more _ _ c.loop-k.invariant.1 c.if-a-k-ne0.false)

pub returns : goal.returns
returns c = let l : length c.args.a ≡ words = search rules in
    sym (meet_none c.args.a c.args.b (λ k h. c.loop-k.invariant.1 k (omega arith)))
