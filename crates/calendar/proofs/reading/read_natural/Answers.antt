-- `calendar::reading::read_natural` meets its contract.
-- Assumes nothing.
use mathlib.Core.Path.{◌∙◌, sym}
use Rattle.calendar.proofs.ReadingLaws.{natural_low, natural_none, natural_read}
use Rattle.text.proofs.CodeLaws.{number_none, number_to}
use Rattle.calendar.proofs.reading.read_natural.Goals as goal

pub returns-in_err-e : goal.returns-in_err-e
returns-in_err-e c = c.from_residual.ensures ∙ natural_none c.args.s.now c.args.at
    (number_none c.args.s.now c.args.at (sym c.read_number.ensures ∙ c.in_err-e.was))

pub returns-then-rank-lt9223372036854775808 : goal.returns-then-rank-lt9223372036854775808
returns-then-rank-lt9223372036854775808 c = natural_low c.args.s.now c.args.at c.in_ok-e.e c.in_ok-e.rank
    (number_to c.args.s.now c.args.at c.in_ok-e.e c.in_ok-e.rank (sym c.read_number.ensures ∙ c.in_ok-e.was))
    c.if-rank-lt9223372036854775808.true

pub returns : goal.returns
returns c = natural_read c.args.s.now c.args.at c.in_ok-e.e c.in_ok-e.rank
    (number_to c.args.s.now c.args.at c.in_ok-e.e c.in_ok-e.rank (sym c.read_number.ensures ∙ c.in_ok-e.was))
