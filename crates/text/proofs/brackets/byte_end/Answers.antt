-- `text::brackets::byte_end` meets its contract: a byte that is not 0 stands before the end.
-- Assumes nothing.
use borrow.Author.Tests.{eq-eqb, ne_eqb}
use mathlib.Core.Path.{◌∙◌, sym}
use native.Mathlib.Omega.{arith}
use Rattle.text.proofs.Lefts.{before_end}
use Rattle.text.proofs.ReaderLaws.{byte_at_read, byte_at_refused}
use Rattle.text.proofs.brackets.byte_end.Goals as goal

pub returns-then-b-eq0 : goal.returns-then-b-eq0
returns-then-b-eq0 c = rw (eq-eqb c.args.b 0 c.if-b-eq0.true)

pub overflow_add-result : goal.overflow_add-result
overflow_add-result c = let h = before_end c.args.s.now c.args.at (λ z. c.if-b-eq0.false (sym c.if-byte_at-b.true ∙ c.byte_at.ensures ∙ z)) in
    omega (arith, h)

pub returns-then-byte_at-b : goal.returns-then-byte_at-b
returns-then-byte_at-b c = let s = c.args.s.now in
    let at = c.args.at in
    rw (ne_eqb c.args.b 0 c.if-b-eq0.false, byte_at_read s at c.args.b (sym c.byte_at.ensures ∙ c.if-byte_at-b.true))

pub returns : goal.returns
returns c = let s = c.args.s.now in
    let at = c.args.at in
    rw (ne_eqb c.args.b 0 c.if-b-eq0.false, byte_at_refused s at c.args.b (λ z. c.if-byte_at-b.false (c.byte_at.ensures ∙ z)))
