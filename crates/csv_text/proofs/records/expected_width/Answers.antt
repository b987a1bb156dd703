-- `csv_text::records::expected_width` meets its contract. Assumes nothing.
use Rattle.csv_text.specs.Scanned.{width_after}
use borrow.Author.Tests.{eq-eqb, ne_eqb}
use Rattle.csv_text.proofs.records.expected_width.Goals as goal

pub returns-then-count-eq0 : goal.returns-then-count-eq0
unfolding width_after
returns-then-count-eq0 c = rw (eq-eqb _ _ c.if-count-eq0.true)

pub returns : goal.returns
unfolding width_after
returns c = rw (ne_eqb _ _ c.if-count-eq0.false)
