-- `text::brackets::spaced_value_end` meets its contract: a space, and then what the reader reads behind it.
-- Assumes nothing.
use mathlib.Core.Path.{◌∙◌, ap, sym}
use native.Mathlib.Omega.{arith}
use Rattle.text.proofs.Spaces.{next_here, next_not, space_here}
use Rattle.text.specs.CodeEnds.{word_end}
use Rattle.text.specs.Words.{value}
use Rattle.text.proofs.brackets.spaced_value_end.Goals as goal

pub overflow_add-at : goal.overflow_add-at
overflow_add-at c = let h = space_here c.args.s.now c.args.at _ c.byte_at.ensures c.if-byte_at-eq32.true in
    omega (arith, h.1)

pub returns-then-byte_at-eq32 : goal.returns-then-byte_at-eq32
returns-then-byte_at-eq32 c = let s = c.args.s.now in
    let at = c.args.at in
    let h = space_here s at _ c.byte_at.ensures c.if-byte_at-eq32.true in
    c.value_end.ensures ∙ sym (ap word_end (next_here value s at h.0))

pub returns-else-byte_at-eq32 : goal.returns-else-byte_at-eq32
returns-else-byte_at-eq32 c = let s = c.args.s.now in
    let at = c.args.at in
    sym (ap word_end (next_not value s at (λ z. c.if-byte_at-eq32.false (c.byte_at.ensures ∙ z))))
