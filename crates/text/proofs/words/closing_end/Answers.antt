-- `text::words::closing_end` meets its contract. The loop's invariant: the bytes from the loop's place to the bracket end where those from
-- the start do. Assumes nothing.
use Prim.Native.Nat.{◌+◌}
use lib.ListN.{drop, length}
use mathlib.Core.Path.{◌≡◌, ap, refl}
use native.Mathlib.Omega.{arith}
use Rattle.text.proofs.Closings.{closing_feed, closing_here, closing_more, closing_none}
use Rattle.text.proofs.ScanEnds.{scan_end}
use Rattle.text.specs.Words.{to_closing}
use Rattle.text.proofs.words.closing_end.Goals as goal

pub loop-i-init : goal.loop-i-init
loop-i-init c = refl

pub bounds-s-i : goal.bounds-s-i
bounds-s-i c = omega arith

pub returns-then-s-i-eq10 : goal.returns-then-s-i-eq10
returns-then-s-i-eq10 c = omega (arith, ap length (closing_feed c.args.s.now c.loop-i.i c.loop-i-test.true c.if-s-i-eq10.true))

pub bounds-s-i-in-loop-i : goal.bounds-s-i-in-loop-i
bounds-s-i-in-loop-i c = omega arith

pub overflow_add-result : goal.overflow_add-result
overflow_add-result c = omega arith

pub returns-then-s-i-eq41 : goal.returns-then-s-i-eq41
returns-then-s-i-eq41 c = omega (arith, ap length (closing_here c.args.s.now c.loop-i.i c.loop-i-test.true c.if-s-i-eq41.true))

pub loop-i-preserved : goal.loop-i-preserved
loop-i-preserved c = omega (arith, ap length (closing_more c.args.s.now c.loop-i.i c.loop-i-test.true c.if-s-i-eq10.false c.if-s-i-eq41.false))

pub returns : goal.returns
returns c = let s = c.args.s.now in
    let at = c.args.at in
    scan_end
    (λ e. e ≡ at + length (to_closing (drop at s)))
    c.max.ensures
    c.loop-i-test.false
    c.loop-i.auto.i-end
    (λ h. omega (arith, ap length (closing_none s at h)))
    (omega (arith, c.loop-i.invariant, ap length (closing_none s c.loop-i.i c.loop-i-test.false)))
