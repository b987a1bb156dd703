-- `import::importing::is_name` meets its contract: the text's first word is a name, and takes the whole text. Assumes nothing.
use Rattle.import.proofs.NameLaws.{name_told}
use mathlib.Core.Path.{◌∙◌}
use Rattle.import.proofs.importing.is_name.Goals as goal

pub returns : goal.returns
returns c = c.eq.ensures ∙ name_told c.args.s.now c.name_end.result c.name_end.ensures
