-- `csv_text::fields::is_plain` meets its contract. Assumes nothing.
use Rattle.csv_text.specs.Fields.{is_plain}
use borrow.Author.Tests.{eq-eqb, ne_eqb}
use Rattle.csv_text.proofs.fields.is_plain.Goals as goal

pub returns-then-b-eq34 : goal.returns-then-b-eq34
unfolding is_plain
returns-then-b-eq34 c = rw (eq-eqb _ _ c.if-b-eq34.true)

pub returns-then-b-eq44 : goal.returns-then-b-eq44
unfolding is_plain
returns-then-b-eq44 c = rw (ne_eqb _ _ c.if-b-eq34.false, eq-eqb _ _ c.if-b-eq44.true)

pub returns-then-b-eq10 : goal.returns-then-b-eq10
unfolding is_plain
returns-then-b-eq10 c = rw (ne_eqb _ _ c.if-b-eq34.false, ne_eqb _ _ c.if-b-eq44.false, eq-eqb _ _ c.if-b-eq10.true)

pub returns : goal.returns
unfolding is_plain
returns c = rw (ne_eqb _ _ c.if-b-eq34.false, ne_eqb _ _ c.if-b-eq44.false, ne_eqb _ _ c.if-b-eq10.false)
