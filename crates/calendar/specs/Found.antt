-- Contract: what the code's answers stand for.
use Rattle.std.specs.Prelude.{ℕ}
use Rattle.std.proofs.Math.Option.{Option, none, some}
use Rattle.calendar.specs.Calendar.{Date, date_rank}
use Rattle.text.specs.Reader.{Left}
use Rattle.calendar.specs.declared.dates.Date as held
use Rattle.std.specs.Prelude as prelude
use Rattle.std.specs.Prelude.{None, Some}

-- the date as the code holds it
abbrev pub held_date : Date → held.Date
held_date d = record { year = d.year; month = d.month; day = d.day }

-- a date that there is, or none
abbrev pub found_date : Option Date → prelude.Option held.Date
found_date none = None
found_date (some d) = Some (held_date d)

-- a date's end, and its rank, or that there is no such date
abbrev pub ranked_at : ℕ → Option ℕ → prelude.Option (ℕ × prelude.Option ℕ)
ranked_at e none = Some (e, None)
ranked_at e (some r) = Some (e, Some r)

-- what the code answers for the reader of dates
abbrev pub date_read_of : Option (Date × Left) → prelude.Option (ℕ × prelude.Option ℕ)
date_read_of none = None
date_read_of (some r) = ranked_at r.1.at (date_rank r.0)
