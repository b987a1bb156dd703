use mathlib.Core.Bool.{not}
use mathlib.Core.Path.{◌∙◌, ap, sym}
use Rattle.condition.specs.Answers.{op_of}
use Rattle.condition.specs.Comparison.{names_meet}
use Rattle.condition.proofs.comparisons.same_meets.Goals as goal

pub returns-in-Eq : goal.returns-in-Eq
unfolding names_meet
returns-in-Eq c = λ v w e. e ∙ sym (ap (λ o. names_meet (op_of o) v w) c.in-Eq.is)

pub returns-in-Ne : goal.returns-in-Ne
unfolding names_meet
returns-in-Ne c = λ v w e. ap not e ∙ sym (ap (λ o. names_meet (op_of o) v w) c.in-Ne.is)

pub returns-in-Lt : goal.returns-in-Lt
unfolding names_meet
returns-in-Lt c = λ v w e. sym (ap (λ o. names_meet (op_of o) v w) c.in-Lt.is)

pub returns-in-Le : goal.returns-in-Le
unfolding names_meet
returns-in-Le c = λ v w e. sym (ap (λ o. names_meet (op_of o) v w) c.in-Le.is)

pub returns-in-Gt : goal.returns-in-Gt
unfolding names_meet
returns-in-Gt c = λ v w e. sym (ap (λ o. names_meet (op_of o) v w) c.in-Gt.is)

pub returns-in-Ge : goal.returns-in-Ge
unfolding names_meet
returns-in-Ge c = λ v w e. sym (ap (λ o. names_meet (op_of o) v w) c.in-Ge.is)
