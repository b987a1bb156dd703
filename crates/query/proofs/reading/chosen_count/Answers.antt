-- `query::reading::chosen_count` meets its contract. Assumes nothing.
use Rattle.query.proofs.BodiesRead.{chosen_none, chosen_rows}
use Rattle.query.proofs.reading.chosen_count.Goals as goal

pub returns-in-Rows : goal.returns-in-Rows
returns-in-Rows c = chosen_rows c.in-Rows.is

pub returns-in-Count : goal.returns-in-Count
returns-in-Count c = chosen_none c.in-Count.is
