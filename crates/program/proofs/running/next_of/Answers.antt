-- `program::running::next_of` meets its contract. Assumes nothing.
use Rattle.program.proofs.running.next_of.Goals as goal

pub returns-then-holds : goal.returns-then-holds
returns-then-holds c = rw c.if-holds.true c.number_at.ensures

pub returns : goal.returns
returns c = rw c.if-holds.false c.number_at-2.ensures
