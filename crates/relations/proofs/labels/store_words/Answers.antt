-- `relations::labels::store_words` meets its contract. The loop's invariant: the words passed are stored. Assumes nothing.
use Prim.Native.Nat.{◌-◌}
use borrow.Author.Rules.{rules}
use lib.ListN.{length, length-set}
use lib.Seq.{paste, paste-zero}
use mathlib.Core.Path.{◌∙◌, ◌≡◌, ap, refl}
use native.Mathlib.Omega.{arith}
use Rattle.relations.proofs.LabelLaws.{paste_more}
use Rattle.purpose.specs.Members.{words}
use Rattle.relations.proofs.labels.store_words.Goals as goal

pub loop-w-init : goal.loop-w-init
loop-w-init c = (omega arith, refl, paste-zero c.args.sets.now c.args.at c.args.s)

pub loop-w-preserved : goal.loop-w-preserved
loop-w-preserved c = let inv = c.loop-w.invariant in
    let n : length c.args.s ≡ words = search rules in
    (omega arith, simp length-set inv.1, paste_more c.args.sets.now c.loop-w.sets c.args.at c.args.s c.loop-w.w (omega arith) (omega arith) inv.2)

pub shape_of-sets : goal.shape_of-sets
shape_of-sets c = c.loop-w.invariant.1

pub returns : goal.returns
returns c = let e : c.loop-w.w ≡ words = omega arith in
    c.loop-w.invariant.2 ∙ ap (paste c.args.sets.now c.args.at c.args.s) e
