-- Meaning: the order of dates (02, Q-14), in two ways that are proved to be one (proofs/DateOrder): by year and day number, and by year,
-- month and day.
use Rattle.std.specs.Prelude.{ℕ, eqb, ltb, Bool, ◌&&◌, ◌||◌}
use Rattle.calendar.specs.Calendar.{Date, day_number}

-- one pair stands before another: by their first numbers a and b, and where these are the same, as `later` says of the second ones
unfoldable pub lexed : ℕ → ℕ → Bool → Bool
lexed a b later = ltb a b || (eqb a b && later)

-- the first date is the earlier, by the pair of year and day number
unfoldable pub earlier_day : Date → Date → Bool
earlier_day a b = lexed a.year b.year (ltb (day_number a) (day_number b))

-- the first date is the earlier, by year, month and day
unfoldable pub earlier : Date → Date → Bool
earlier a b = lexed a.year b.year (lexed a.month b.month (ltb a.day b.day))
