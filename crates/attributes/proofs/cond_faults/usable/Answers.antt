-- `attributes::cond_faults::usable` meets its contract. Assumes nothing.
use mathlib.Core.Option.{some}
use mathlib.Core.Path.{◌∙◌, ◌≡◌, ap, sym}
use Rattle.document.specs.Lookup.{attribute_of}
use Rattle.document.specs.Policy.{Policy}
use Rattle.attributes.proofs.CondLineLaws.{named, named_none, usable_clock, usable_none, usable_role}
use Rattle.principals.specs.Attributes.{Attributes}
use Rattle.workspace.specs.Found.{found_as}
use Rattle.text.specs.Words.{word_of}
use Rattle.attributes.proofs.cond_faults.usable.Goals.{In-Some}
use Rattle.attributes.proofs.cond_faults.usable.Goals as goal

pub returns-in_default : goal.returns-in_default
unfolding attribute_of
returns-in_default c d g h = let entry = c.args in sym
    (usable_none d (word_of entry.line.now entry.at) entry.role (named_none d (word_of entry.line.now entry.at) (sym (ap found_as c.in_default.is) ∙ c.find_attribute.ensures.0 d.attributes h)))

-- the attribute that was found
found : (c : In-Some) (d : Policy) → Attributes c.args.text.now
    c.args.attributes.now c.args.n
    d.attributes → some c.in-Some.a ≡ attribute_of d
    (word_of c.args.line.now c.args.at)
unfolding attribute_of
found c d h = sym (ap found_as c.in-Some.is) ∙ c.find_attribute.ensures.0 d.attributes h

pub returns-in-Some-attribute_role : goal.returns-in-Some-attribute_role
returns-in-Some-attribute_role c d g h = let w = word_of c.args.line.now c.args.at in
    let a = named d w c.in-Some.a (found (goal.at.returns-in-Some-attribute_role c).In-Some d h) in
    c.role_below.ensures c.args.text.now d.roles g
    ∙ sym (usable_role d w c.args.role a.0
    c.in-Some-attribute_role.q a.2
    (sym (ap found_as c.in-Some-attribute_role.is) ∙ c.attribute_role.ensures c.args.text.now d.attributes a.0 h a.1))

pub returns-in-None : goal.returns-in-None
returns-in-None c d g h = let w = word_of c.args.line.now c.args.at in
    let a = named d w c.in-Some.a (found (goal.at.returns-in-None c).In-Some d h) in
    sym (usable_clock d w c.args.role a.0 a.2
    (sym (ap found_as c.in-None.is) ∙ c.attribute_role.ensures c.args.text.now d.attributes a.0 h a.1))
