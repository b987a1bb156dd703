-- Meaning: the text of a date (02, Q-14): `(YEAR MONTH DAY)`, three numbers in a bracket. Whether there is such a date (31) is not the
-- reader's to say.
use Rattle.std.specs.Prelude.{◌-◌, ◌^◌, ℕ, Bool, List, ◌++◌, ◌∷◌}
use Rattle.std.proofs.Math.Option.{Option, bind}
use Rattle.calendar.specs.Calendar.{Date, date_rank}
use Rattle.lists.specs.Lists.{or_zero, there}
use Rattle.text.specs.Brackets.{bracketed, next}
use Rattle.text.specs.Bytes.{ascii}
use Rattle.text.specs.Numbers.{Value, decimal}
use Rattle.text.specs.Reader.{Reader, ◌>>=◌, give, whole}
use Rattle.text.specs.Words.{read_number}

-- read a number, and give 0 for a negative one: 0 is no year, no month and no day
unfoldable pub natural : Reader ℕ
natural = do
  k ← read_number
  give (k - 2 ^ 63)

-- read `YEAR MONTH DAY`
unfoldable pub date_parts : Reader Date
date_parts = do
  y ← natural
  m ← next natural
  d ← next natural
  give (record { year = y; month = m; day = d })

-- read `(YEAR MONTH DAY)`
unfoldable pub date_text : Reader Date
date_text = bracketed date_parts

-- the text of a date
unfoldable pub date_written : Date → List ℕ
date_written d = ascii "(" ++ decimal d.year ++ 32 ∷ decimal d.month ++ 32 ∷ decimal d.day ++ ascii ")"

-- ---- values that are dates: columns of dates and constants of comparisons read them so

-- the date that a value is as a form, if it is one; there may be no such date
unfoldable pub date_of : Value → Option Date
date_of v = whole date_text v

-- the value is a date as a form
unfoldable pub is_date : Value → Bool
is_date v = there (date_of v)

-- the rank of the date that a value is; 0, which is the rank of none, where it is no date or there is no such date
unfoldable pub day_rank_of : Value → ℕ
day_rank_of v = or_zero (bind (date_of v) date_rank)
