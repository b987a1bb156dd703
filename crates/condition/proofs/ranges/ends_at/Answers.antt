use mathlib.Core.Path.{◌∙◌, sym}
use Rattle.condition.proofs.EndsLaws.{word_ends}
use Rattle.condition.proofs.ranges.ends_at.Goals as goal

pub returns-then-byte_at-eq40 : goal.returns-then-byte_at-eq40
returns-then-byte_at-eq40 c = c.range_ends.ensures (sym c.byte_at.ensures ∙ c.if-byte_at-eq40.true)

pub returns : goal.returns
returns c = let s = c.args.s.now in
    let at = c.args.at in
    word_ends s at c.known_rank-n.result (λ z. c.if-byte_at-eq40.false (c.byte_at.ensures ∙ z)) c.known_rank-n.ensures
