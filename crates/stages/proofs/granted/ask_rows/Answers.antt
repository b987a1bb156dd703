-- `stages::granted::ask_rows` meets its contract. Assumes nothing.
use Rattle.query.specs.Query.{resolved}
use Rattle.stages.proofs.Chain.{gives_written}
use Rattle.stages.specs.Tails.{answer_under}
use Rattle.stages.proofs.granted.ask_rows.Goals as goal

pub returns : goal.returns
unfolding answer_under
returns c d q ready = gives_written _ c.args.grant (c.answer_rows-x.ensures d (resolved d.policy q) ready)
