-- `calendar::reading::is_date` meets its contract: what is written there is a date where the reader of dates ends.
-- Assumes nothing.
use mathlib.Core.Path.{◌∙◌, ap, sym}
use Rattle.calendar.proofs.DateValues.{is_date_lem}
use Rattle.calendar.specs.DateText.{date_text}
use Rattle.std.specs.Prelude.{is_some}
use Rattle.text.proofs.EndLaws.{end_there}
use Rattle.text.specs.Reader.{from}
use Rattle.calendar.proofs.reading.is_date.Goals as goal

pub returns : goal.returns
returns c = let s = c.args.s.now in
    let at = c.args.at in
    c.is_some.ensures ∙ ap is_some c.date_end.ensures ∙ end_there (date_text (from s at)) ∙ sym (is_date_lem s at)
