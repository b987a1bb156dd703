-- `members::givens::attribute_of_role` meets its contract. Assumes nothing.
use mathlib.Core.Path.{◌∙◌, ap, sym}
use Rattle.document.specs.Lookup.{has_attribute}
use Rattle.document.specs.Policy.{tree_of}
use Rattle.workspace.specs.Found.{found_as}
use Rattle.lists.specs.Lists.{holds_of}
use Rattle.purpose.specs.Compliance.{descends}
use Rattle.members.proofs.givens.attribute_of_role.Goals as goal

pub returns-in-Some : goal.returns-in-Some
unfolding has_attribute holds_of
returns-in-Some c = λ text d a m h e. c.role_below.ensures text d.roles m ∙ ap
    (holds_of (descends (tree_of d.roles) c.args.role))
    (sym (ap found_as c.in-Some.is) ∙ c.attribute_role-at.ensures text d.attributes a h e)

pub returns-in-None : goal.returns-in-None
unfolding has_attribute holds_of
returns-in-None c = λ text d a m h e. ap (holds_of (descends (tree_of d.roles) c.args.role)) (sym (ap found_as c.in-None.is) ∙ c.attribute_role-at.ensures text d.attributes a h e)
