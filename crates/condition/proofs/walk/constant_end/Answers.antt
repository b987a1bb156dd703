use mathlib.Core.Path.{◌∙◌, sym}
use Rattle.condition.proofs.ConstantLaws.{constant_date, constant_flat, constant_word}
use Rattle.condition.proofs.walk.constant_end.Goals as goal

pub returns-then-depth-eq0 : goal.returns-then-depth-eq0
returns-then-depth-eq0 c = let x = c.args in
    c.value_end.ensures ∙ constant_flat x.s.now x.at x.depth c.if-depth-eq0.true

pub returns-then-byte_at-eq40 : goal.returns-then-byte_at-eq40
returns-then-byte_at-eq40 c = let x = c.args in
    c.date_end.ensures ∙ constant_date x.s.now x.at x.depth c.if-depth-eq0.false (sym c.byte_at.ensures ∙ c.if-byte_at-eq40.true)

pub returns : goal.returns
returns c = let x = c.args in
    c.value_end-2.ensures ∙ constant_word x.s.now x.at x.depth (λ z. c.if-byte_at-eq40.false (c.byte_at.ensures ∙ z))
