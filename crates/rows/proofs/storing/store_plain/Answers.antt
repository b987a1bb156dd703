-- `rows::storing::store_plain` meets its contract: its items are words. Assumes nothing.
use mathlib.Core.List.{[]}
use Rattle.rows.proofs.RowStored.{plain_stored}
use Rattle.rows.proofs.storing.store_plain.Goals as goal

pub returns : goal.returns
returns c rs ws l N small h few = let a = c.args in
    plain_stored a.line.now a.is rs ws N small few h (λ short e. c.store_values-n.ensures 0 [] l small short e) (c.add_row.ensures a.text.now)
