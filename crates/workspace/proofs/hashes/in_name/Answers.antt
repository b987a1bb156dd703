-- `workspace::hashes::in_name` meets its contract. Assumes nothing.
use mathlib.Core.Path.{◌∙◌, sym}
use Rattle.workspace.proofs.HashLaws.{letter_in_name}
use Rattle.workspace.proofs.hashes.in_name.Goals as goal

pub returns-then-is_letter : goal.returns-then-is_letter
returns-then-is_letter c = letter_in_name c.args.b (sym c.is_letter.ensures ∙ c.if-is_letter.true)

pub returns : goal.returns
returns c = c.is_name_byte.ensures
