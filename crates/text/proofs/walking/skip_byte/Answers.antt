-- `text::walking::skip_byte` meets its contract.
-- Assumes nothing.
use mathlib.Core.Path.{sym}
use Rattle.text.proofs.WalkingLaws.{past_end, past_on, past_other}
use Rattle.text.proofs.walking.skip_byte.Goals as goal

pub returns-then-s-at : goal.returns-then-s-at
returns-then-s-at c = sym (past_on _ _ _ c.if-at-s.true c.if-s-at.true)

pub returns-else-s-at : goal.returns-else-s-at
returns-else-s-at c = sym (past_other _ _ _ c.if-s-at.false)

pub returns-else-at-s : goal.returns-else-at-s
returns-else-at-s c = sym (past_end _ _ _ c.if-at-s.false)
