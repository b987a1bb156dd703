-- `text::brackets::names_end` meets its contract. Assumes nothing.
use mathlib.Core.Path.{◌∙◌}
use Rattle.text.proofs.ItemLaws.{dropped_many}
use Rattle.text.specs.Reader.{from}
use Rattle.text.specs.Words.{name}
use Rattle.text.proofs.brackets.names_end.Goals as goal

pub returns : goal.returns
returns c = c.many_end.ensures ∙ dropped_many name (from c.args.s.now c.args.at)
