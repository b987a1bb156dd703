-- `calendar::reading::date_end` meets its contract: the end that was read, without the rank.
-- Assumes nothing.
use mathlib.Core.Path.{◌∙◌, sym}
use Rattle.calendar.proofs.ReadingLaws.{date_nothing, date_told}
use Rattle.calendar.specs.DateText.{date_text}
use Rattle.text.specs.Reader.{from}
use Rattle.calendar.proofs.reading.date_end.Goals as goal

pub returns : goal.returns
returns c = let s = c.args.s.now in
    let at = c.args.at in
    (date_told (date_text (from s at)) _ _ (sym c.read_date.ensures ∙ c.in_ok-e.was)).0

pub returns-in_err-e : goal.returns-in_err-e
returns-in_err-e c = let s = c.args.s.now in
    let at = c.args.at in
    c.from_residual.ensures ∙ (date_nothing (date_text (from s at)) (sym c.read_date.ensures ∙ c.in_err-e.was)).0
