-- `query::reading::is_bounded` meets its contract. Assumes nothing.
use Rattle.query.proofs.BodiesRead.{few_columns, over_columns}
use Rattle.query.proofs.reading.is_bounded.Goals as goal

pub returns-then-n-gt16 : goal.returns-then-n-gt16
returns-then-n-gt16 c = over_columns c.args.q c.chosen_count-n.ensures c.if-n-gt16.true

pub returns : goal.returns
returns c = few_columns c.args.q c.chosen_count-n.ensures c.if-n-gt16.false c.comparison_count.ensures
