-- `walks::lines::closes` meets its contract. Assumes nothing.
use borrow.Author.Tests.{eq-eqb, ne_eqb}
use lib.ListN.{get_or}
use mathlib.Core.Path.{◌∙◌, ◌≡◌, sym}
use native.Mathlib.Omega.{arith}
use Rattle.text.proofs.Lefts.{before_end}
use Rattle.walks.specs.Taken.{closes_at}
use Rattle.walks.proofs.lines.closes.Goals.{Else-byte_at-ne41}
use Rattle.walks.proofs.lines.closes.Goals as goal

bracket : (c : Else-byte_at-ne41) → get_or c.args.line.now c.args.at 0 ≡ 41
bracket c = sym c.byte_at.ensures ∙ c.if-byte_at-ne41.false

pub returns-then-byte_at-ne41 : goal.returns-then-byte_at-ne41
unfolding closes_at
returns-then-byte_at-ne41 c = let entry = c.args in rw (ne_eqb (get_or entry.line.now entry.at 0) 41 (λ z. c.if-byte_at-ne41.true (c.byte_at.ensures ∙ z)))

pub overflow_add-result : goal.overflow_add-result
overflow_add-result c = let entry = c.args in let h = bracket c in omega (arith, before_end entry.line.now entry.at (λ z. absurd (omega (arith, h, z))))

pub returns : goal.returns
unfolding closes_at
returns c = let entry = c.args in rw (eq-eqb (get_or entry.line.now entry.at 0) 41 (bracket c))
