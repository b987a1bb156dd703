-- `text::numbers::read_magnitude` meets its contract: digits without a leading zero.
-- Assumes nothing.
use mathlib.Core.Bool.{false, true}
use mathlib.Core.Path.{◌∙◌, ◌≡◌, sym}
use Rattle.text.specs.Numbers.{magnitude, no_leading_zero}
use Rattle.text.specs.Words.{word_at}
use Rattle.text.proofs.numbers.read_magnitude.Goals as goal

pub returns-then-is_canonical : goal.returns-then-is_canonical
unfolding magnitude
returns-then-is_canonical c = let h : no_leading_zero (word_at c.args.s.now c.args.at) ≡ true = sym c.is_canonical.ensures ∙ c.if-is_canonical.true in
    rw (h, magnitude) c.read_digits.ensures

pub returns-else-is_canonical : goal.returns-else-is_canonical
unfolding magnitude
returns-else-is_canonical c = let h : no_leading_zero (word_at c.args.s.now c.args.at) ≡ false = sym c.is_canonical.ensures ∙ c.if-is_canonical.false in
    rw (h, magnitude)
