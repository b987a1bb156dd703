-- `writing::bytes::put_bytes` meets its contract. The loop's invariant: to write what is left of s comes to the same as to write s at the start.
-- Assumes nothing.
use Prim.Native.Nat.{◌+◌}
use Rattle.writing.proofs.Writing as w
use Rattle.text.proofs.Lefts.{drop_here}
use lib.ListN.{drop, drop_of_length-le}
use mathlib.Core.List.{[], ◌∷◌}
use native.Mathlib.Omega.{arith}
use Rattle.writing.proofs.bytes.put_bytes.Goals as goal

pub loop-i-init : goal.loop-i-init
loop-i-init c = w.start _ _ _

pub loop-i-preserved : goal.loop-i-preserved
loop-i-preserved c = w.step (_ ∷ []) (drop (c.loop-i.i + 1) c.args.s.now) c.loop-i.invariant (drop_here c.args.s.now c.loop-i.i c.loop-i-test.true) c.put_byte-to.ensures

pub shape_of-out : goal.shape_of-out
shape_of-out c = c.loop-i.invariant.kept

pub returns : goal.returns
returns c = w.done c.loop-i.invariant (drop_of_length-le c.args.s.now c.loop-i-test.false)
