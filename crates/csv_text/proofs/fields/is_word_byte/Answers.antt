-- `csv_text::fields::is_word_byte` meets its contract. Assumes nothing.
use Rattle.csv_text.proofs.ShortValues.{small_letter}
use Rattle.csv_text.proofs.fields.is_word_byte.Goals as goal

pub returns-then-b-lt97 : goal.returns-then-b-lt97
returns-then-b-lt97 c = c.is_name_byte.ensures

pub returns : goal.returns
returns c = small_letter c.args.b c.if-b-lt97.false
