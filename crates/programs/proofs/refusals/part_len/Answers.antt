-- `programs::refusals::part_len` meets its contract, by cases of its tests.
use borrow.Author.Tests.{eq-eqb, le-ltb, lt-ltb, ne_eqb}
use Rattle.programs.specs.Kept.{part_length}
use Rattle.programs.proofs.refusals.part_len.Goals as goal

pub returns-then-part-eq0 : goal.returns-then-part-eq0
unfolding part_length
returns-then-part-eq0 c = rw (eq-eqb _ _ c.if-part-eq0.true)

pub returns-then-kept-len : goal.returns-then-kept-len
unfolding part_length
returns-then-kept-len c = rw (ne_eqb _ _ c.if-part-eq0.false, lt-ltb _ _ c.if-kept-len.true)

pub returns : goal.returns
unfolding part_length
returns c = rw (ne_eqb _ _ c.if-part-eq0.false, le-ltb _ _ c.if-kept-len.false)
