-- `attributes::attr_storing::store_attr` meets its contract: the role is found by its name. Assumes nothing.
use Rattle.lists.specs.Lists.{or_zero}
use Rattle.document.specs.Lookup.{role_of}
use Rattle.text.specs.Words.{word_of}
use mathlib.Core.Path.{◌∙◌, ap}
use Rattle.condition.specs.Answers.{kind_of}
use Rattle.stepping.proofs.NamedLaws.{attr_stored}
use Rattle.attributes.proofs.attr_storing.store_attr.Goals as goal

pub returns : goal.returns
unfolding role_of
returns c d l R N ok h = let a = c.args in
    attr_stored l d a.a _ h c.place-pos.ensures (word_of a.line.now a.r) _ (kind_of a.kind) N ok
    (c.number-role.ensures ∙ ap or_zero (c.find_role.ensures.0 _ R))
    (c.add_attribute.ensures a.text.now _ N)
