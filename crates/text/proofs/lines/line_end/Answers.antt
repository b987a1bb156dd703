-- `text::lines::line_end` meets its contract. The loop's invariant: where the line from the loop's place ends, the line from the start
-- ends. Assumes nothing.
use native.Mathlib.Omega.{arith}
use Rattle.text.proofs.LineLaws.{ends_here, ends_last, ends_later}
use Rattle.text.proofs.ScanEnds.{scan_end}
use Rattle.text.specs.Lines.{LineEnd}
use Rattle.text.proofs.lines.line_end.Goals as goal

pub loop-i-init : goal.loop-i-init
loop-i-init c = λ e h. h

pub bounds-s-i : goal.bounds-s-i
bounds-s-i c = omega arith

pub returns-then-s-i-eq10 : goal.returns-then-s-i-eq10
returns-then-s-i-eq10 c = c.loop-i.invariant c.loop-i.i (ends_here c.args.s.now c.loop-i.i c.loop-i-test.true c.if-s-i-eq10.true)

pub loop-i-preserved : goal.loop-i-preserved
loop-i-preserved c = λ e h. c.loop-i.invariant e (ends_later c.args.s.now c.loop-i.i e c.loop-i-test.true c.if-s-i-eq10.false h)

pub returns : goal.returns
returns c = let s = c.args.s.now in
    scan_end (LineEnd s c.args.at) c.max.ensures c.loop-i-test.false c.loop-i.auto.i-end (ends_last s c.args.at) (c.loop-i.invariant c.loop-i.i (ends_last s c.loop-i.i c.loop-i-test.false))
