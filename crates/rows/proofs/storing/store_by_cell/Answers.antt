-- `rows::storing::store_by_cell` meets its contract: its items are brackets of two words. Assumes nothing.
use Rattle.relations.proofs.RowLaws.{row_empty}
use Rattle.rows.proofs.RowStored.{cells_stored, none_before}
use mathlib.Core.List.{[]}
use Rattle.rows.proofs.storing.store_by_cell.Goals as goal

pub returns : goal.returns
returns c d sets rs ws l L N small h few = let a = c.args in
    cells_stored a.line.now a.is rs ws N small few d h (λ short. none_before (c.store_cells-n.ensures d sets [] l L small short (row_empty _ _ _))) (c.add_row.ensures a.text.now)
