-- `belonging::values::keep_first` meets its contract. Assumes nothing.
use mathlib.Core.Path.{sym}
use Rattle.belonging.proofs.ValueLaws.{kept_old, kept_out, kept_set}
use Rattle.belonging.proofs.values.keep_first.Goals as goal

pub returns-then-places-n-eq0 : goal.returns-then-places-n-eq0
returns-then-places-n-eq0 c = sym (kept_set c.args.places.now c.args.n c.args.v c.if-places-n-eq0.true)

pub returns-else-places-n-eq0 : goal.returns-else-places-n-eq0
returns-else-places-n-eq0 c = sym (kept_old c.args.places.now c.args.n c.args.v c.if-places-n-eq0.false)

pub returns-else-n-places : goal.returns-else-n-places
returns-else-n-places c = kept_out c.args.places.now c.args.n c.args.v c.if-n-places.false
