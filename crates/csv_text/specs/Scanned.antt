-- Contract: what the answers of the scanning code stand for, each as a function of what the definitions give.
use Rattle.std.specs.Prelude.{◌+◌, suc, ℕ, eqb, length, cond, List, [], ◌∷◌}
use Rattle.std.proofs.Math.Option.{Option, none, some}
use Rattle.csv_text.specs.Fields.{Field}
use Rattle.csv_text.specs.Records.{Entry, Split, first_unfit, malformed, split}
use Rattle.std.specs.Prelude as prelude
use Rattle.std.specs.Prelude.{None, Some, Err, Ok, Result}
use Rattle.text.specs.Bytes.{is_digit}
use Rattle.text.specs.Numbers.{is_value}
use Rattle.text.specs.Reader.{Left}

-- the digits at the front, as many as there are
unfoldable pub digit_bytes : List ℕ → List ℕ
digit_bytes [] = []
digit_bytes (b ∷ bs) = cond (is_digit b) (b ∷ digit_bytes bs) []

-- where a field behind an opening quote ends
abbrev pub quoted_end : ℕ → Option (Field × ℕ) → prelude.Option ℕ
quoted_end at none = None
quoted_end at (some q) = Some (at + q.1)

-- the bytes that a field takes in a row line with the space in front of it; none if it is unfit
unfoldable pub field_size : Field → ℕ
field_size v = cond (is_value v) (suc (length v)) 0

-- 1 for a field that is no name and no number
unfoldable pub field_unfit : Field → ℕ
field_unfit v = cond (is_value v) 0 1

-- where a field ends, and these two
abbrev pub field_of : Option (Field × Left) → prelude.Option (ℕ × ℕ × ℕ)
field_of none = None
field_of (some r) = Some (r.1.at, field_size r.0, field_unfit r.0)

-- the bytes that fields take
unfoldable pub size_of : List Field → ℕ
size_of [] = 0
size_of (v ∷ vs) = field_size v + size_of vs

-- how many are unfit
unfoldable pub unfit_in : List Field → ℕ
unfit_in [] = 0
unfit_in (v ∷ vs) = field_unfit v + unfit_in vs

-- where a record ends, how many fields it has, and these two
abbrev pub record_read_of : Option (List Field × Left) → prelude.Option (ℕ × ℕ × ℕ × ℕ)
record_read_of none = None
record_read_of (some r) = Some (r.1.at, length r.0, size_of r.0, unfit_in r.0)

-- the bytes that the fields of all records take
unfoldable pub total_size : List Entry → ℕ
total_size [] = 0
total_size (e ∷ es) = size_of e.fields + total_size es

-- a place that there may be
abbrev pub place_of : Option ℕ → prelude.Option ℕ
place_of none = None
place_of (some p) = Some p

-- the first of two places: one that was found before, or that of a record with unfit fields
abbrev pub first_of : prelude.Option ℕ → ℕ → ℕ → prelude.Option ℕ
first_of (Some p) unfit at = Some p
first_of None unfit at = cond (eqb unfit 0) None (Some at)

-- the width that is expected of a record of n fields behind `count` others: theirs, or its own where it is the first
unfoldable pub width_after : (count w n : ℕ) → ℕ
width_after count w n = cond (eqb count 0) n w

-- what a file comes to: the place of a malformed record; or the number of its records, the bytes that their fields take, and the
-- place of the first with an unfit field
abbrev pub scan_of : Split → Result (ℕ × ℕ × (prelude.Option ℕ)) ℕ
scan_of (malformed p) = Err p
scan_of (split es) = Ok (length es, total_size es, place_of (first_unfit es))
