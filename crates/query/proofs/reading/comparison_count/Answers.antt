-- `query::reading::comparison_count` meets its contract.
-- Assumes nothing.
use Rattle.query.proofs.BodiesRead.{count_always, count_when}
use Rattle.query.proofs.reading.comparison_count.Goals as goal

pub returns-in-Always : goal.returns-in-Always
returns-in-Always c = count_always c.in-Always.is

pub returns-in-When : goal.returns-in-When
returns-in-When c = count_when c.in-When.is
