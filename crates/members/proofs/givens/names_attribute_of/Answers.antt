-- `members::givens::names_attribute_of` meets its contract. Assumes nothing.
use mathlib.Core.Path.{◌∙◌, ap, sym}
use Rattle.document.specs.Lookup.{attribute_of}
use Rattle.members.proofs.GivenLaws.{of_role_at, of_role_none}
use Rattle.workspace.specs.Found.{found_as}
use Rattle.text.specs.Words.{word_of}
use Rattle.members.proofs.givens.names_attribute_of.Goals as goal

pub returns-in-Some : goal.returns-in-Some
unfolding attribute_of
returns-in-Some c = let entry = c.args in λ d m h. of_role_at d
    (word_of entry.line.now entry.at) entry.role c.in-Some.n c.attribute_of_role.result
    (sym (c.find_attribute-found.ensures.0 d.attributes h) ∙ ap found_as c.in-Some.is)
    (λ a e. c.attribute_of_role.ensures entry.text.now d a m h e)

pub returns-in-None : goal.returns-in-None
unfolding attribute_of
returns-in-None c = let entry = c.args in λ d m h. sym (of_role_none d (word_of entry.line.now entry.at) entry.role (sym (c.find_attribute-found.ensures.0 d.attributes h) ∙ ap found_as c.in-None.is))
