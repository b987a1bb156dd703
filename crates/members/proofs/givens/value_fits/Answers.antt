-- `members::givens::value_fits` meets its contract. Assumes nothing.
use Rattle.condition.specs.Answers.{kind_of}
use Rattle.condition.specs.Kinds.{has_kind}
use Rattle.document.specs.Lookup.{attribute_of}
use Rattle.members.proofs.GivenLaws.{kind_at, kind_none}
use Rattle.workspace.specs.Found.{found_as}
use Rattle.text.specs.Words.{word_at, word_of}
use mathlib.Core.Path.{◌∙◌, ap, sym}
use Rattle.members.proofs.givens.value_fits.Goals as goal

pub returns-in-Some : goal.returns-in-Some
unfolding attribute_of
returns-in-Some c = λ d h.
    let a = c.args in
    c.has_kind.ensures ∙ ap (λ k. has_kind k (word_at a.line.now a.v)) (sym (kind_at d (word_of a.line.now a.at)
    c.in-Some.n (kind_of c.attribute_kind.result)
    (sym (c.find_attribute-found.ensures.0 d.attributes h) ∙ ap found_as c.in-Some.is)
    (λ x e. sym (c.attribute_kind.ensures a.text.now d.attributes x h e))))

pub returns-in-None : goal.returns-in-None
unfolding attribute_of
returns-in-None c = let entry = c.args in λ d h. c.has_kind-in-None.ensures ∙ ap
    (λ k. has_kind k (word_at entry.line.now entry.v))
    (sym (kind_none d (word_of entry.line.now entry.at) (sym (c.find_attribute-found.ensures.0 d.attributes h) ∙ ap found_as c.in-None.is)))
