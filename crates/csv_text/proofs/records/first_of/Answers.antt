-- `csv_text::records::first_of` meets its contract. Assumes nothing.
use Rattle.csv_text.proofs.ScanLaws.{first_found, found_none}
use borrow.Author.Tests.{eq-eqb, ne_eqb}
use mathlib.Core.Path.{sym}
use Rattle.csv_text.proofs.records.first_of.Goals as goal

pub returns-then-is_some : goal.returns-then-is_some
returns-then-is_some c = first_found c.args.found _ _ (sym c.if-is_some.ensures)

pub returns-then-unfit-eq0 : goal.returns-then-unfit-eq0
returns-then-unfit-eq0 c = rw (found_none c.args.found (sym c.if-is_some.ensures), eq-eqb _ _ c.if-unfit-eq0.true)

pub returns : goal.returns
returns c = rw (found_none c.args.found (sym c.if-is_some.ensures), ne_eqb _ _ c.if-unfit-eq0.false)
