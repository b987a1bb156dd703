-- `query::reading::verb_in` meets its contract. Assumes nothing.
use Rattle.query.proofs.BodiesRead.{verb_count, verb_rows}
use Rattle.query.proofs.reading.verb_in.Goals as goal

pub returns-in-Rows : goal.returns-in-Rows
returns-in-Rows c = verb_rows c.in-Rows.is

pub returns-in-Count : goal.returns-in-Count
returns-in-Count c = verb_count c.in-Count.is
