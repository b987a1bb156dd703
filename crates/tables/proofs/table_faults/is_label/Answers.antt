-- `tables::table_faults::is_label` meets its contract. Assumes nothing.
use Rattle.lists.specs.Lists.{there}
use Rattle.stepping.proofs.FoundLaws.{is_some_there}
use mathlib.Core.Path.{◌∙◌, ap}
use Rattle.tables.proofs.table_faults.is_label.Goals as goal

pub returns : goal.returns
returns c sets ls h = c.is_some.ensures ∙ is_some_there c.find_label.result ∙ ap there (c.find_label.ensures.0 sets ls h)
