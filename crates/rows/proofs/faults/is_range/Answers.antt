-- `rows::faults::is_range` meets its contract. Assumes nothing.
use mathlib.Core.Path.{◌∙◌, ap, sym}
use Rattle.lists.specs.Lists.{there}
use Rattle.stepping.proofs.FoundLaws.{is_some_as}
use Rattle.text.proofs.EndLaws.{end_none, end_read}
use Rattle.text.proofs.RangeLaws.{forward_range, is_range_lem}
use Rattle.text.specs.Amounts.{range}
use Rattle.rows.proofs.faults.is_range.Goals as goal

pub returns : goal.returns
unfolding there
returns c = let s = c.args.line.now in
    let at = c.args.at in
    is_some_as c.is_some.ensures
    (λ e h. is_range_lem s at ∙ ap there (end_read range s at forward_range e (sym c.range_end.ensures ∙ h)).1)
    (λ h. is_range_lem s at ∙ ap there (end_none range s at (sym c.range_end.ensures ∙ h)))
