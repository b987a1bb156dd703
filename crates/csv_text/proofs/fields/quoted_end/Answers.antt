-- `csv_text::fields::quoted_end` meets its contract. The loop's invariant: the field ends from the loop's place on where it ends at the start.
-- Assumes nothing.
use Prim.Native.Nat.{◌+◌}
use Rattle.csv_text.proofs.FieldLaws.{quote_here, quoted_byte, quoted_closed, quoted_double, quoted_open}
use lib.ListN.{get_or}
use mathlib.Core.Path.{◌∙◌, ◌≡◌, refl, sym}
use native.Mathlib.Omega.{arith}
use Rattle.csv_text.proofs.fields.quoted_end.Goals.{Else-byte_at-ne34}
use Rattle.csv_text.proofs.fields.quoted_end.Goals as goal

pub loop-i-init : goal.loop-i-init
loop-i-init c = refl

pub overflow_add-i : goal.overflow_add-i
overflow_add-i c = omega arith

pub overflow_add-result : goal.overflow_add-result
overflow_add-result c = omega arith

pub returns-then-byte_at-ne34 : goal.returns-then-byte_at-ne34
returns-then-byte_at-ne34 c = sym (quoted_closed c.args.s.now c.loop-i.i c.if-s-i-eq34.true (λ e. c.if-byte_at-ne34.true (c.byte_at.ensures ∙ e))) ∙ c.loop-i.invariant

-- the second of two quotes stands in the file
second : (c : Else-byte_at-ne34) → get_or c.args.s.now (c.loop-i.i + 1) 0 ≡ 34
second c = sym c.byte_at.ensures ∙ c.if-byte_at-ne34.false

pub overflow_add-i-then-s-i-eq34 : goal.overflow_add-i-then-s-i-eq34
overflow_add-i-then-s-i-eq34 c = omega (arith, quote_here c.args.s.now (c.loop-i.i + 1) (second c))

pub loop-i-smaller-then-s-i-eq34 : goal.loop-i-smaller-then-s-i-eq34
loop-i-smaller-then-s-i-eq34 c = omega (arith, quote_here c.args.s.now (c.loop-i.i + 1) (second c))

pub loop-i-preserved-then-s-i-eq34 : goal.loop-i-preserved-then-s-i-eq34
loop-i-preserved-then-s-i-eq34 c = sym (quoted_double c.args.s.now c.loop-i.i c.if-s-i-eq34.true (second c)) ∙ c.loop-i.invariant

pub overflow_add-i-in-loop-i : goal.overflow_add-i-in-loop-i
overflow_add-i-in-loop-i c = omega arith

pub loop-i-smaller : goal.loop-i-smaller
loop-i-smaller c = omega arith

pub loop-i-preserved : goal.loop-i-preserved
loop-i-preserved c = sym (quoted_byte c.args.s.now c.loop-i.i c.loop-i-test.true c.if-s-i-eq34.false) ∙ c.loop-i.invariant

pub returns : goal.returns
returns c = sym (quoted_open c.args.s.now c.loop-i.i c.loop-i-test.false) ∙ c.loop-i.invariant
