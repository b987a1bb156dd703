-- `form::walks::first_in` meets its contract. Assumes nothing.
use Rattle.form.specs.Walks.{first_in}
use Rattle.form.proofs.walks.first_in.Goals as goal

pub returns : goal.returns
unfolding first_in
returns c = c.skip_byte.ensures
