-- `members::givens::attribute_known` meets its contract. Assumes nothing.
use Rattle.document.specs.Lookup.{attribute_of}
use Rattle.lists.specs.Lists.{there}
use Rattle.stepping.proofs.FoundLaws.{is_some_there}
use mathlib.Core.Path.{◌∙◌, ap}
use Rattle.members.proofs.givens.attribute_known.Goals as goal

pub returns : goal.returns
unfolding attribute_of
returns c d h = c.is_some.ensures ∙ is_some_there c.find_attribute.result ∙ ap there (c.find_attribute.ensures.0 d.attributes h)
