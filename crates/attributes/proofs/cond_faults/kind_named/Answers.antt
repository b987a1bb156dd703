-- `attributes::cond_faults::kind_named` meets its contract. Assumes nothing.
use mathlib.Core.Option.{some}
use mathlib.Core.Path.{◌∙◌, ◌≡◌, ap, sym}
use Rattle.document.specs.Lookup.{attribute_of}
use Rattle.document.specs.Policy.{Policy}
use Rattle.attributes.proofs.CondLineLaws.{kind_none, kind_there, named, named_none}
use Rattle.principals.specs.Attributes.{Attributes}
use Rattle.workspace.specs.Found.{found_as}
use Rattle.text.specs.Words.{word_of}
use Rattle.attributes.proofs.cond_faults.kind_named.Goals.{In-Some}
use Rattle.attributes.proofs.cond_faults.kind_named.Goals as goal

pub returns-in_default : goal.returns-in_default
unfolding attribute_of
returns-in_default c d h = let entry = c.args in sym
    (kind_none d (word_of entry.line.now entry.at) (named_none d (word_of entry.line.now entry.at) (sym (ap found_as c.in_default.is) ∙ c.find_attribute.ensures.0 d.attributes h)))

-- the attribute that was found
found : (c : In-Some) (d : Policy) → Attributes c.args.text.now
    c.args.attributes.now c.args.n
    d.attributes → some c.in-Some.a ≡ attribute_of d
    (word_of c.args.line.now c.args.at)
unfolding attribute_of
found c d h = sym (ap found_as c.in-Some.is) ∙ c.find_attribute.ensures.0 d.attributes h

pub returns : goal.returns
returns c d h = let w = word_of c.args.line.now c.args.at in
    let a = named d w c.in-Some.a (found (goal.at.returns c).In-Some d h) in
    c.attribute_kind.ensures c.args.text.now d.attributes a.0 h a.1 ∙ sym (kind_there d w a.0 a.2)
