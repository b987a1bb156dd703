-- `query::why::read_why` meets its contract: a bracket, the keyword, four words, and nothing behind it. Assumes nothing.
use Rattle.query.proofs.WholeLaws.{closes_before}
use Rattle.query.proofs.WhyRead.{line_open, line_other, line_read, line_shut, line_trailing, line_wrong}
use Rattle.query.specs.WhyPlaces.{why_line, why_to}
use mathlib.Core.Path.{◌∙◌, ap, sym}
use native.Mathlib.Omega.{arith}
use Rattle.query.proofs.why.read_why.Goals as goal

pub returns-then-byte_at-ne40 : goal.returns-then-byte_at-ne40
unfolding why_line
returns-then-byte_at-ne40 c = line_shut c.args.s.now (λ z. c.if-byte_at-ne40.true (c.byte_at.ensures ∙ z))

pub returns-then-not-is_word : goal.returns-then-not-is_word
unfolding why_line
returns-then-not-is_word c = line_other c.args.s.now (sym c.byte_at.ensures ∙ c.if-byte_at-ne40.false) (sym c.is_word.ensures ∙ c.if-not-is_word.true)

pub returns-in_err-w : goal.returns-in_err-w
unfolding why_line why_to
returns-in_err-w c = let s = c.args.s.now in
    rw c.from_residual.ensures (line_wrong s
    (sym c.byte_at.ensures ∙ c.if-byte_at-ne40.false)
    (sym c.is_word.ensures ∙ c.if-not-is_word.false)
    c.word_end.ensures (c.why_body.ensures ∙ ap (why_to s) c.in_err-w.was))

pub returns-then-byte_at-ne41 : goal.returns-then-byte_at-ne41
unfolding why_line why_to
returns-then-byte_at-ne41 c = let s = c.args.s.now in
    line_open s
    (sym c.byte_at.ensures ∙ c.if-byte_at-ne40.false)
    (sym c.is_word.ensures ∙ c.if-not-is_word.false)
    c.word_end.ensures _
    (c.why_body.ensures ∙ ap (why_to s) c.in_ok-w.was)
    (λ z. c.if-byte_at-ne41.true (c.byte_at-2.ensures ∙ z))

pub overflow_add-e : goal.overflow_add-e
overflow_add-e c = omega (arith, closes_before c.args.s.now c.in_ok-w.e (sym c.byte_at-2.ensures ∙ c.if-byte_at-ne41.false))

pub returns-then-e-s : goal.returns-then-e-s
unfolding why_line why_to
returns-then-e-s c = let s = c.args.s.now in
    line_read s
    (sym c.byte_at.ensures ∙ c.if-byte_at-ne40.false)
    (sym c.is_word.ensures ∙ c.if-not-is_word.false)
    c.word_end.ensures _
    (c.why_body.ensures ∙ ap (why_to s) c.in_ok-w.was)
    (sym c.byte_at-2.ensures ∙ c.if-byte_at-ne41.false) c.if-e-s.true

pub returns : goal.returns
unfolding why_line why_to
returns c = let s = c.args.s.now in
    line_trailing s
    (sym c.byte_at.ensures ∙ c.if-byte_at-ne40.false)
    (sym c.is_word.ensures ∙ c.if-not-is_word.false)
    c.word_end.ensures _
    (c.why_body.ensures ∙ ap (why_to s) c.in_ok-w.was)
    (sym c.byte_at-2.ensures ∙ c.if-byte_at-ne41.false) c.if-e-s.false
