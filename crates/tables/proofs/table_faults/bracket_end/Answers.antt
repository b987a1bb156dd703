-- `tables::table_faults::bracket_end` meets its contract. Assumes nothing.
use Rattle.tables.specs.TableLine.{bracket_end_by}
use Rattle.tables.proofs.table_faults.bracket_end.Goals as goal

pub returns-then-triple : goal.returns-then-triple
unfolding bracket_end_by
returns-then-triple c = rw c.if-triple.true c.triple_end.ensures

pub returns : goal.returns
unfolding bracket_end_by
returns c = rw c.if-triple.false c.pair_end.ensures
