-- `text::words::same_byte` meets its contract.
-- Assumes nothing.
use lib.Dec.{eqb}
use mathlib.Core.Path.{◌∙◌, ap, ap₂, sym}
use Rattle.text.proofs.NameLaws.{same_byte_refl}
use Rattle.text.specs.Names.{same_byte}
use Rattle.text.proofs.words.same_byte.Goals as goal

pub returns-then-a-b : goal.returns-then-a-b
returns-then-a-b c = let a = c.args in sym (same_byte_refl a.a) ∙ ap (same_byte a.a) c.if-a-b.true

pub returns : goal.returns
unfolding same_byte
returns c = ap₂ eqb c.lower.ensures c.lower-2.ensures
