-- `relations::labels::find_label` meets its contract: the name's end is found first. Assumes nothing.
use Rattle.relations.proofs.labels.find_label.Goals as goal

pub returns : goal.returns
returns c = (λ sets ls. c.find_label_to.ensures.0 sets ls c.word_end.ensures, c.find_label_to.ensures.1)
