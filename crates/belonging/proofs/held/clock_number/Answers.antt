-- `belonging::held::clock_number` meets its contract. Assumes nothing.
use Rattle.belonging.proofs.HeldLaws.{clock_day, clock_hour, clock_year}
use Rattle.query.specs.HostClock.{clock_of}
use Rattle.belonging.proofs.held.clock_number.Goals as goal

pub returns-then-n-eq0 : goal.returns-then-n-eq0
unfolding clock_of
returns-then-n-eq0 c m e = clock_year (clock_of c.args.clock) c.args.n m c.if-n-eq0.true e

pub returns-then-n-eq1 : goal.returns-then-n-eq1
unfolding clock_of
returns-then-n-eq1 c m e = clock_day (clock_of c.args.clock) c.args.n m c.if-n-eq1.true e

pub returns : goal.returns
unfolding clock_of
returns c m e = clock_hour (clock_of c.args.clock) c.args.n m c.if-n-eq0.false c.if-n-eq1.false e
