-- `form::parts::labelled_columns_end` meets its contract. Assumes nothing.
use mathlib.Core.Path.{◌∙◌}
use Rattle.form.specs.FormReader.{labelled_column}
use Rattle.text.proofs.ItemLaws.{dropped_many}
use Rattle.text.specs.Reader.{from}
use Rattle.form.proofs.parts.labelled_columns_end.Goals as goal

pub returns : goal.returns
returns c = c.many_end.ensures ∙ dropped_many labelled_column (from c.args.s.now c.args.at)
