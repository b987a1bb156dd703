-- `walks::purposes::take_purpose` meets its contract. Assumes nothing.
use mathlib.Core.Path.{refl, subst}
use Rattle.walks.specs.PurposeLine.{ReadsBelow}
use Rattle.lists.proofs.Tests.{true_not_false}
use Rattle.walks.proofs.purposes.take_purpose.Goals as goal

pub returns : goal.returns
returns c = let a = c.args in
    (λ d l N. c.take_below.ensures.0 d l (subst (ReadsBelow a.text.now a.purposes.now a.k a.line.now) c.in-Some.is c.read_below.ensures) N, c.take_below.ensures.1)

pub returns-in_default : goal.returns-in_default
returns-in_default c = (λ d l N. N, λ held. true_not_false held refl)
