-- `calendar::reading::known_date` meets its contract: the rank that was read, without the date's end.
-- Assumes nothing.
use mathlib.Core.Option.{bind}
use mathlib.Core.Path.{◌∙◌, ap, sym}
use Rattle.calendar.proofs.DateValues.{date_rank_lem}
use Rattle.calendar.proofs.ReadingLaws.{date_nothing, date_told}
use Rattle.calendar.specs.Calendar.{date_rank}
use Rattle.calendar.specs.DateText.{date_text}
use Rattle.std.specs.Prelude.{Option, unwrap_or, ℕ}
use Rattle.text.proofs.CodeLaws.{amount_or_zero}
use Rattle.text.specs.Reader.{from}
use Rattle.calendar.proofs.reading.known_date.Goals as goal

pub returns : goal.returns
returns c = let s = c.args.s.now in
    let at = c.args.at in
    let o = date_text (from s at) in
    c.unwrap_or.ensures
    ∙ ap (λ (r : Option ℕ). unwrap_or r 0) (date_told o _ _ (sym c.read_date.ensures ∙ c.in-Some.is)).1
    ∙ amount_or_zero (bind o (λ r. date_rank r.0)) ∙ sym (date_rank_lem s at)

pub returns-in_default : goal.returns-in_default
returns-in_default c = let s = c.args.s.now in
    let at = c.args.at in
    (date_nothing (date_text (from s at)) (sym c.read_date.ensures ∙ c.in_default.is)).1 ∙ sym (date_rank_lem s at)
