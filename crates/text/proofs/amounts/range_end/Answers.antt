-- `text::amounts::range_end` meets its contract: the end alone. Assumes nothing.
use mathlib.Core.Path.{◌∙◌, sym}
use Rattle.text.proofs.CodeLaws.{span_at, span_nothing}
use Rattle.text.specs.Amounts.{range}
use Rattle.text.specs.Reader.{from}
use Rattle.text.proofs.amounts.range_end.Goals as goal

pub returns : goal.returns
returns c = span_at (range (from c.args.s.now c.args.at)) _ _ _ (sym c.read_range.ensures ∙ c.in_ok-e.was)

pub returns-in_err-e : goal.returns-in_err-e
returns-in_err-e c = c.from_residual.ensures ∙ span_nothing (range (from c.args.s.now c.args.at)) (sym c.read_range.ensures ∙ c.in_err-e.was)
