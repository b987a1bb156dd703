-- `relations::tables::find_table` meets its contract: the name's end is found first. Assumes nothing.
use Rattle.relations.proofs.tables.find_table.Goals as goal

pub returns : goal.returns
returns c = (λ ts. c.find_table_to.ensures.0 ts c.word_end.ensures, c.find_table_to.ensures.1)
