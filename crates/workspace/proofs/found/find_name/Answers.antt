-- `workspace::found::find_name` meets its contract: the word's end is found first. Assumes nothing.
use Rattle.workspace.proofs.found.find_name.Goals as goal

pub returns : goal.returns
returns c = (λ fits. c.find_name_to.ensures.0 fits c.word_end.ensures, c.find_name_to.ensures.1)
