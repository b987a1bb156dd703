-- `stages::granted::sought_in` meets its contract. Assumes nothing.
use Rattle.stages.specs.Stages.{sought_in}
use Rattle.stages.proofs.granted.sought_in.Goals as goal

pub returns : goal.returns
unfolding sought_in
returns c = λ i. record { table = c.args.t; marking = c.args.marking; test = c.args.q.test; tests = c.comparison_count-tests.ensures i; lines = c.asks_rows-lines.ensures i; verb = c.verb_in-verb.ensures i; chosen = c.chosen_count-chosen.ensures i }
