-- `query::naming::store_wanted` meets its contract. Assumes nothing.
use Rattle.query.proofs.NamingLaws.{wanted_none, wanted_rows_lem}
use Rattle.query.proofs.naming.store_wanted.Goals as goal

pub returns-in-Rows : goal.returns-in-Rows
returns-in-Rows c = wanted_rows_lem c.args.s.now c.in-Rows.is c.store_selected.ensures

pub returns-in-Count : goal.returns-in-Count
returns-in-Count c = wanted_none c.args.s.now c.args.out.now c.in-Count.is
