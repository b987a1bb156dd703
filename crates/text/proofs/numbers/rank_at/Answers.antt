-- `text::numbers::rank_at` meets its contract: the rank that was read, without the number's end.
-- Assumes nothing.
use mathlib.Core.Path.{◌∙◌, ap, sym}
use Rattle.text.proofs.CodeLaws.{number_at, number_nothing}
use Rattle.text.specs.CodeEnds.{amount_of}
use Rattle.text.proofs.numbers.rank_at.Goals as goal

pub returns : goal.returns
returns c = sym (ap amount_of (number_at c.args.s.now c.args.at _ _ (sym c.read_number.ensures ∙ c.in_ok-n.was)).0)

pub returns-in_err-n : goal.returns-in_err-n
returns-in_err-n c = c.from_residual.ensures ∙ sym (ap amount_of (number_nothing c.args.s.now c.args.at (sym c.read_number.ensures ∙ c.in_err-n.was)))
