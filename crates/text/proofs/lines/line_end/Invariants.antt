-- `text::lines::line_end` meets its contract. The loop's invariant: where the line from the loop's place ends, the line from the start
-- ends. Assumes nothing.
use Prim.Native.Nat.{ℕ}
use Rattle.text.specs.Lines.{LineEnd}
use Rattle.text.proofs.lines.line_end.Given as goal

abbrev pub invariant-loop-i : goal.invariant-loop-i
invariant-loop-i l = (e : ℕ) → LineEnd l.s l.i e → LineEnd l.s l.at e
