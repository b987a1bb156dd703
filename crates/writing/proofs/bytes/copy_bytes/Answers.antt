-- `writing::bytes::copy_bytes` meets its contract. The loop's invariant: the first k bytes are copied. Assumes nothing.
use Prim.Native.Nat.{◌+◌}
use Rattle.writing.proofs.Writing.{copied_more}
use lib.ListN.{drop, get_or, length-set, set, take}
use lib.Seq.{sets}
use mathlib.Core.Path.{◌∙◌, ◌≡◌, ap, refl}
use native.Mathlib.Omega.{arith}
use Rattle.writing.proofs.bytes.copy_bytes.Goals as goal

pub loop-k-init : goal.loop-k-init
loop-k-init c = (omega arith, refl, refl)

pub overflow_add-out : goal.overflow_add-out
overflow_add-out c = omega (arith, c.requires.1)

pub bounds-text-start : goal.bounds-text-start
bounds-text-start c = omega (arith, c.requires.1)

pub overflow_add-out-in-loop-k : goal.overflow_add-out-in-loop-k
overflow_add-out-in-loop-k c = omega (arith, c.requires.0)

pub bounds-out-at : goal.bounds-out-at
bounds-out-at c = omega (arith, c.loop-k.invariant.1, c.requires.0)

pub loop-k-preserved : goal.loop-k-preserved
loop-k-preserved c = let a = c.args in
    let l = c.loop-k in
    (omega arith, length-set l.out _ _ ∙ l.invariant.1, ap (λ z. set z (a.at + l.k) (get_or a.text.now (a.start + l.k) 0)) l.invariant.2 ∙ copied_more a.out.now a.text.now a.at a.start l.k (omega (arith, c.requires.1, c.loop-k-test.true)))

pub shape_of-out : goal.shape_of-out
shape_of-out c = c.loop-k.invariant.1

pub returns : goal.returns
returns c = let a = c.args in
    let l = c.loop-k in
    let e : c.loop-k.k ≡ c.args.size = omega (arith, c.loop-k.invariant.0, c.loop-k-test.false) in
    l.invariant.2 ∙ ap (λ n. sets a.out.now a.at (take n (drop a.start a.text.now))) e
