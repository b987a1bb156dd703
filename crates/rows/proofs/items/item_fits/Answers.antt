-- `rows::items::item_fits` meets its contract. Assumes nothing.
use mathlib.Core.Path.{◌∙◌, sym}
use Rattle.rows.proofs.RowItems.{fits_itself, fits_other}
use Rattle.rows.proofs.items.item_fits.Goals as goal

pub returns-then-is_labelled : goal.returns-then-is_labelled
returns-then-is_labelled c = sym c.is_labelled.ensures ∙ c.if-is_labelled.true ∙ sym (fits_itself c.args.bracketed)

pub returns-else-is_labelled : goal.returns-else-is_labelled
returns-else-is_labelled c = sym c.is_labelled.ensures ∙ c.if-is_labelled.false ∙ sym (fits_other c.args.bracketed)
