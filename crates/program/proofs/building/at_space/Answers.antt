-- `program::building::at_space` meets its contract. Assumes nothing.
use borrow.Author.Tests.{eq-eqb, ne_eqb}
use lib.ListN.{get_or}
use mathlib.Core.Path.{◌∙◌, sym}
use Rattle.program.proofs.building.at_space.Goals as goal

pub returns-then-byte_at-eq32 : goal.returns-then-byte_at-eq32
returns-then-byte_at-eq32 c = rw (eq-eqb (get_or c.args.s.now c.args.at 0) 32 (sym c.byte_at.ensures ∙ c.if-byte_at-eq32.true))

pub returns : goal.returns
returns c = rw (ne_eqb (get_or c.args.s.now c.args.at 0) 32 (λ z. c.if-byte_at-eq32.false (c.byte_at.ensures ∙ z)))
