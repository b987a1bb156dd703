-- `telling::arrays::why_loaded` meets its contract: what the line finds over the arrays, told. Assumes nothing.
use Rattle.telling.proofs.HeldLaws.{held_told}
use Rattle.telling.proofs.arrays.why_loaded.Goals as goal

pub returns : goal.returns
returns c = held_told c.args.line.now c.explain_line-e.result
    c.counts_of-c.ensures c.explain_line-e.ensures c.tell.ensures
