-- `asking::clock_line::read_clock` meets its contract: a bracket, the keyword, three numbers, and nothing behind the bracket.
use mathlib.Core.Path.{◌∙◌, sym}
use native.Mathlib.Omega.{arith}
use Rattle.query.proofs.WholeLaws.{closes_before}
use Rattle.query.specs.HostClock.{clock_of}
use Rattle.asking.proofs.ClockReading.{line_long, line_open, line_other, line_read, line_shut, line_wrong}
use Rattle.asking.proofs.clock_line.read_clock.Goals as goal

pub returns-then-byte_at-ne40 : goal.returns-then-byte_at-ne40
unfolding clock_of
returns-then-byte_at-ne40 c = line_shut c.args.s.now (λ z. c.if-byte_at-ne40.true (c.byte_at.ensures ∙ z))

pub returns-then-not-is_word : goal.returns-then-not-is_word
unfolding clock_of
returns-then-not-is_word c = line_other c.args.s.now (sym c.byte_at.ensures ∙ c.if-byte_at-ne40.false) (sym c.is_word.ensures ∙ c.if-not-is_word.true)

pub returns-in_default : goal.returns-in_default
unfolding clock_of
returns-in_default c =
    line_wrong c.args.s.now (sym c.byte_at.ensures ∙ c.if-byte_at-ne40.false) (sym c.is_word.ensures ∙ c.if-not-is_word.false) c.word_end.ensures c.in_default.ensures

pub returns-then-byte_at-ne41 : goal.returns-then-byte_at-ne41
unfolding clock_of
returns-then-byte_at-ne41 c =
    line_open c.args.s.now (sym c.byte_at.ensures ∙ c.if-byte_at-ne40.false) (sym c.is_word.ensures ∙ c.if-not-is_word.false) c.word_end.ensures c.in-Some.c c.in-Some.e c.in-Some.ensures (λ z. c.if-byte_at-ne41.true (c.byte_at-2.ensures ∙ z))

pub overflow_add-e : goal.overflow_add-e
overflow_add-e c = omega (arith, closes_before c.args.s.now c.in-Some.e (sym c.byte_at-2.ensures ∙ c.if-byte_at-ne41.false))

pub returns-then-e-s : goal.returns-then-e-s
unfolding clock_of
returns-then-e-s c =
    line_long c.args.s.now (sym c.byte_at.ensures ∙ c.if-byte_at-ne40.false) (sym c.is_word.ensures ∙ c.if-not-is_word.false) c.word_end.ensures c.in-Some.c c.in-Some.e c.in-Some.ensures (sym c.byte_at-2.ensures ∙ c.if-byte_at-ne41.false) c.if-e-s.true

pub returns : goal.returns
returns c =
    line_read c.args.s.now (sym c.byte_at.ensures ∙ c.if-byte_at-ne40.false) (sym c.is_word.ensures ∙ c.if-not-is_word.false) c.word_end.ensures c.in-Some.c c.in-Some.e c.in-Some.ensures (sym c.byte_at-2.ensures ∙ c.if-byte_at-ne41.false) c.if-e-s.false
