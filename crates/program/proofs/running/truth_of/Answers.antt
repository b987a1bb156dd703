-- `program::running::truth_of` meets its contract. Assumes nothing.
use mathlib.Core.Path.{◌∙◌, sym}
use Rattle.program.proofs.running.truth_of.Goals as goal

pub returns-then-flag_at : goal.returns-then-flag_at
returns-then-flag_at c = rw (sym c.flag_at.ensures ∙ c.if-flag_at.true) c.flag_at-then-flag_at.ensures

pub returns : goal.returns
returns c = rw (sym c.flag_at.ensures ∙ c.if-flag_at.false) c.flag_at-2.ensures
