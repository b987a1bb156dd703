-- `writing::bytes::put_written` meets its contract. The loop's invariant: to write the value from the loop's place on comes to
-- the same as to write the whole value at the start. Assumes nothing.
use Prim.Native.Nat.{◌+◌, ◌-◌}
use Rattle.writing.proofs.Writing as w
use Rattle.text.specs.Words.{written_at}
use lib.ListN.{drop, take}
use mathlib.Core.List.{[], ◌++◌, ◌∷◌}
use mathlib.Core.Path.{◌≡◌, subst, sym}
use native.Mathlib.Omega.{arith}
use Rattle.writing.proofs.bytes.put_written.Goals as goal

pub loop-i-init : goal.loop-i-init
loop-i-init c = let s = c.args.text.now in
    let a = c.args.start in
    (omega arith, subst (λ v. w.Ahead c.args.out.now c.args.at (written_at c.args.text.now c.args.start) c.args.out.now c.args.at v) (sym (w.value_whole s a c.written_end-end.result c.written_end-end.ensures)) (w.start _ _ _))

pub loop-i-preserved : goal.loop-i-preserved
loop-i-preserved c = let s = c.args.text.now in
    let i = c.loop-i.i in
    let e = c.written_end-end.result in
    let q : take (c.written_end-end.result - c.loop-i.i) (drop c.loop-i.i c.args.text.now) ≡ (c.byte_at.result ∷ []) ++ take (c.written_end-end.result - (c.loop-i.i + 1)) (drop (c.loop-i.i + 1) c.args.text.now) =
    rw c.byte_at.ensures (w.value_more s c.args.start i e c.loop-i.invariant.0 c.written_end-end.ensures c.loop-i-test.true) in
    (omega (arith, c.loop-i.invariant.0), w.step (_ ∷ []) (take (e - (i + 1)) (drop (i + 1) s)) c.loop-i.invariant.1 q c.put_byte-to.ensures)

pub shape_of-out : goal.shape_of-out
shape_of-out c = c.loop-i.invariant.1.kept

pub returns : goal.returns
returns c = w.done c.loop-i.invariant.1 (w.value_done c.args.text.now c.loop-i.i c.written_end-end.result c.loop-i-test.false)
