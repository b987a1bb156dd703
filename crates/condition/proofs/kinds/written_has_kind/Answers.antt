use mathlib.Core.Path.{◌∙◌, ap, sym}
use Rattle.condition.specs.Kinds.{has_kind}
use Rattle.lists.specs.Lists.{there}
use Rattle.text.proofs.Enclosed.{written_is_name, written_rank}
use Rattle.text.specs.Numbers.{is_number}
use Rattle.condition.proofs.kinds.written_has_kind.Goals as goal

pub returns-in-Num : goal.returns-in-Num
unfolding has_kind is_number
returns-in-Num c = c.has_kind.ensures ∙ rw c.in-Num.is (ap there (sym (written_rank c.args.s.now c.args.at)))

pub returns-in-Name : goal.returns-in-Name
unfolding has_kind
returns-in-Name c = c.has_kind-in-Name.ensures ∙ rw c.in-Name.is (sym (written_is_name c.args.s.now c.args.at))

pub returns-in-Date : goal.returns-in-Date
unfolding has_kind
returns-in-Date c = c.is_date.ensures ∙ rw c.in-Date.is
