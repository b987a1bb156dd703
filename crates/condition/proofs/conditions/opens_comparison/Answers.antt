use borrow.Author.Tests.{eq-eqb, ne_eqb}
use lib.ListN.{get_or}
use mathlib.Core.Path.{◌∙◌, ◌≡◌, sym}
use native.Mathlib.Omega.{arith}
use Rattle.condition.specs.Answers.{opens_comparison}
use Rattle.text.proofs.Lefts.{before_end}
use Rattle.condition.proofs.conditions.opens_comparison.Goals as goal

pub overflow_add-at : goal.overflow_add-at
overflow_add-at c = let s = c.args.s.now in
    let at = c.args.at in
    let b : get_or s at 0 ≡ 40 = sym c.byte_at.ensures ∙ c.if-byte_at-eq40.true in
    omega (arith, before_end s at (λ z. absurd (omega (arith, b, z))))

pub returns-then-byte_at-eq40 : goal.returns-then-byte_at-eq40
unfolding opens_comparison
returns-then-byte_at-eq40 c = let s = c.args.s.now in
    let at = c.args.at in
    let b : get_or s at 0 ≡ 40 = sym c.byte_at.ensures ∙ c.if-byte_at-eq40.true in
    c.is_comparator.ensures ∙ rw (eq-eqb _ _ b)

pub returns-else-byte_at-eq40 : goal.returns-else-byte_at-eq40
unfolding opens_comparison
returns-else-byte_at-eq40 c = let s = c.args.s.now in
    let at = c.args.at in
    rw (ne_eqb (get_or s at 0) 40 (λ z. c.if-byte_at-eq40.false (c.byte_at.ensures ∙ z)))
