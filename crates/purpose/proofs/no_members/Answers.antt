-- `purpose::no_members` meets its contract. Assumes nothing.
use Rattle.purpose.specs.Members.{words}
use Rattle.purpose.proofs.Words.{none_members}
use Rattle.purpose.proofs.no_members.Goals as goal

pub returns : goal.returns
returns c = none_members words
