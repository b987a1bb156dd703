-- `principals::names::find_purpose` meets its contract. Assumes nothing.
use Rattle.principals.proofs.names.find_purpose.Goals as goal

pub returns : goal.returns
returns c = (c.seek_purpose-s.ensures.is, c.seek_purpose-s.ensures.below)
