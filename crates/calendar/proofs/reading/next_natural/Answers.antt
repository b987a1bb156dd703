-- `calendar::reading::next_natural` meets its contract: a space, and then what the reader reads behind it.
-- Assumes nothing.
use mathlib.Core.Path.{◌∙◌, ap, sym}
use native.Mathlib.Omega.{arith}
use Rattle.text.proofs.Spaces.{next_here, next_not, space_here}
use Rattle.text.specs.CodeEnds.{end_of_number}
use Rattle.calendar.specs.DateText.{natural}
use Rattle.calendar.proofs.reading.next_natural.Goals as goal

pub overflow_add-at : goal.overflow_add-at
overflow_add-at c = omega (arith, (space_here c.args.s.now c.args.at c.byte_at.result c.byte_at.ensures c.if-byte_at-eq32.true).1)

pub returns-then-byte_at-eq32 : goal.returns-then-byte_at-eq32
returns-then-byte_at-eq32 c = let h = space_here c.args.s.now c.args.at c.byte_at.result c.byte_at.ensures c.if-byte_at-eq32.true in
    c.read_natural.ensures ∙ sym (ap end_of_number (next_here natural c.args.s.now c.args.at h.0))

pub returns-else-byte_at-eq32 : goal.returns-else-byte_at-eq32
returns-else-byte_at-eq32 c = sym (ap end_of_number (next_not natural c.args.s.now c.args.at (λ z. c.if-byte_at-eq32.false (c.byte_at.ensures ∙ z))))
