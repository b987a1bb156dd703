use mathlib.Core.Path.{◌∙◌, ap, sym}
use Rattle.calendar.proofs.DateValues.{word_not_date}
use Rattle.condition.proofs.FoundLaws.{amount_found, word_found}
use Rattle.condition.specs.Kinds.{has_kind}
use Rattle.std.specs.Prelude.{is_some}
use Rattle.text.specs.Names.{is_name}
use Rattle.text.specs.Numbers.{is_number, rank}
use Rattle.text.specs.Words.{word_at}
use Rattle.condition.proofs.kinds.has_kind.Goals as goal

pub returns-in-Num : goal.returns-in-Num
unfolding has_kind is_number
returns-in-Num c = rw c.in-Num.is (c.is_some.ensures ∙ ap is_some c.rank_at.ensures ∙ amount_found (rank (word_at c.args.s.now c.args.at)))

pub returns-in-Name : goal.returns-in-Name
unfolding has_kind
returns-in-Name c = rw c.in-Name.is (c.is_some-in-Name.ensures ∙ ap is_some c.name_end.ensures ∙ word_found is_name c.args.s.now c.args.at)

pub returns-in-Date : goal.returns-in-Date
unfolding has_kind
returns-in-Date c = let s = c.args.s.now in
    let at = c.args.at in
    rw c.in-Date.is (sym (word_not_date s at))
