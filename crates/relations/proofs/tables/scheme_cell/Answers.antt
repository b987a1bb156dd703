-- `relations::tables::scheme_cell` meets its contract. Assumes nothing.
use mathlib.Core.Path.{ap, sym}
use Rattle.relations.specs.Tables.{scheme_by, scheme_of_cell}
use Rattle.relations.proofs.tables.scheme_cell.Goals as goal

pub returns-in-Unlabelled : goal.returns-in-Unlabelled
unfolding scheme_by scheme_of_cell
returns-in-Unlabelled c l ls = ap (λ s. scheme_by s l ls) (sym c.in-Unlabelled.is)

pub returns-in-ByTable : goal.returns-in-ByTable
unfolding scheme_by scheme_of_cell
returns-in-ByTable c l ls = ap (λ s. scheme_by s l ls) (sym c.in-ByTable.is)

pub returns-in-ByColumn : goal.returns-in-ByColumn
unfolding scheme_by scheme_of_cell
returns-in-ByColumn c l ls = ap (λ s. scheme_by s l ls) (sym c.in-ByColumn.is)

pub returns-in-ByRow : goal.returns-in-ByRow
unfolding scheme_by scheme_of_cell
returns-in-ByRow c l ls = ap (λ s. scheme_by s l ls) (sym c.in-ByRow.is)

pub returns-in-ByCell : goal.returns-in-ByCell
unfolding scheme_by scheme_of_cell
returns-in-ByCell c l ls = ap (λ s. scheme_by s l ls) (sym c.in-ByCell.is)

pub returns-in-Nested : goal.returns-in-Nested
unfolding scheme_by scheme_of_cell
returns-in-Nested c l ls = ap (λ s. scheme_by s l ls) (sym c.in-Nested.is)
