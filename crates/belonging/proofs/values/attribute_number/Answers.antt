-- `belonging::values::attribute_number` meets its contract. Assumes nothing.
use Rattle.document.specs.Lookup.{attribute_of}
use Rattle.workspace.proofs.FoundLaws.{found_or_zero}
use Rattle.lists.specs.Lists.{or_zero}
use mathlib.Core.Path.{◌∙◌, ap}
use Rattle.belonging.proofs.values.attribute_number.Goals as goal

pub returns : goal.returns
unfolding attribute_of
returns c d h = c.unwrap_or.ensures ∙ found_or_zero c.find_attribute.result ∙ ap or_zero (c.find_attribute.ensures.0 d.attributes h)
