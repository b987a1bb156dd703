-- Meaning: the values of cells (02, Q-12, Q-14): names, numbers, ranges `(LOW HIGH)` and dates `(YEAR MONTH DAY)`.
use Rattle.std.specs.Prelude.{Bool, ◌||◌, cond}
use Rattle.calendar.specs.DateText.{date_text, is_date}
use Rattle.lists.specs.Lists.{there}
use Rattle.text.specs.Amounts.{is_range, range}
use Rattle.text.specs.Numbers.{Value, is_value}
use Rattle.text.specs.Reader.{Reader, if_next}
use Rattle.text.specs.Words.{Word, value, written}

-- the value of a cell: a name, a number, a range or a date
unfoldable pub is_cell_value : Value → Bool
is_cell_value v = is_value v || (is_range v || is_date v)

-- read a range where one stands, and else a date, as it was written; no text is both
unfoldable pub enclosed_value : Reader Word
enclosed_value l = cond (there (range l)) (written range) (written date_text) l

-- read the value of a cell, as it was written: a range or a date where `(` comes next, and else a name or a number
unfoldable pub cell_value : Reader Word
cell_value = if_next 40 enclosed_value value
