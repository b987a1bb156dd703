-- `relations::labels::load_words` meets its contract. The loop's invariant: the words passed are those of the array. Assumes nothing.
use Prim.Native.Nat.{◌-◌}
use borrow.Author.Count.{below_none}
use borrow.Author.Rules.{rules}
use lib.ListN.{length-set}
use native.Mathlib.Omega.{arith}
use Rattle.relations.proofs.LabelLaws.{words_from, words_more}
use Rattle.relations.proofs.labels.load_words.Goals as goal

pub loop-w-init : goal.loop-w-init
loop-w-init c = (omega arith, search rules, below_none _)

pub loop-w-preserved : goal.loop-w-preserved
loop-w-preserved c = let inv = c.loop-w.invariant in
    (omega arith, simp length-set inv.1, words_more c.loop-w.r c.args.sets.now c.args.at c.loop-w.w (omega arith) inv.2)

pub returns : goal.returns
returns c = let inv = c.loop-w.invariant in
    words_from c.loop-w.r c.args.sets.now c.args.at inv.1 c.requires (λ j h. inv.2 j (omega arith))
