-- `purpose::relatives` meets its contract. The loop's invariant: the purposes passed whose rows have p are in. Assumes nothing.
use mathlib.Core.Path.{◌∙◌, ◌≡◌, sym}
use native.Mathlib.Omega.{arith}
use Rattle.purpose.proofs.Closures.{near_more, near_none, near_same}
use Rattle.purpose.proofs.relatives.Goals.{then-contains, else-contains}
use Rattle.purpose.proofs.relatives.Goals as goal

pub loop-i-init : goal.loop-i-init
loop-i-init c = (omega arith, near_none c.args.up.now c.args.p)

pub loop-i-preserved : goal.loop-i-preserved
loop-i-preserved c = let args = c.args in
    let at = c.loop-i.i in
    let near = c.loop-i.invariant.1 in
    let found = c.contains.ensures in (
      omega arith,
      elim c.if-contains.branch [
        | then-contains w ↦ rw w.r-is (near_more args.up.now args.p at _ w.insert-more.result (omega arith) near (sym found ∙ w.if-contains.true) w.insert-more.ensures)
        | else-contains w ↦ rw w.r-is (near_same args.up.now args.p at _ near (sym found ∙ w.if-contains.false))
      ],
    )

pub returns : goal.returns
returns c d = let e : c.loop-i.i ≡ c.args.n = omega arith in
    rw e at (c.loop-i.invariant.1 d)
