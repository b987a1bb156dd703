-- Meaning: records of a comma-separated file (02, Q-1; RFC 4180): fields with commas between them, and a line ending or the file's end.
use Rattle.std.specs.Prelude.{suc, zero, ℕ, eqb, length, cond, List, [], ◌∷◌}
use Rattle.std.proofs.Math.Option.{Option, none, some}
use Rattle.csv_text.specs.Fields.{Field, field}
use Rattle.lists.specs.Lists.{all_of, is_empty}
use Rattle.text.specs.Numbers.{is_value}
use Rattle.text.specs.Reader.{Left, Reader, ◌>>=◌, ◌>>◌, byte, from, give, if_next, refuse, require}

-- a line feed, or a carriage return and a line feed
unfoldable pub line_ending : Reader (Unit {0})
line_ending = if_next 13 (do byte 13; byte 10; give tt) (do byte 10; give tt)

-- the end of a record: the file's end, or a line ending
unfoldable pub record_end : Reader (Unit {0})
record_end l = cond (is_empty l.bytes) (give tt) line_ending l

-- at most n fields with commas between them, and the record's end
unfoldable pub fields_up_to : ℕ → Reader (List Field)
fields_up_to zero = refuse
fields_up_to (suc n) = do
  v ← field
  if_next 44 (do byte 44; vs ← fields_up_to n; give (v ∷ vs)) (do record_end; give (v ∷ []))

-- the fields of a record; each but the last takes a byte at least
unfoldable pub fields : Reader (List Field)
fields l = fields_up_to (suc (length l.bytes)) l

-- a record of `width` fields
unfoldable pub record_of : ℕ → Reader (List Field)
record_of width = do
  vs ← fields
  require (eqb (length vs) width)
  give vs

-- a record: the place of its first byte in the file, and its fields
pub record Entry : Type 0 where
  pub at : ℕ
  pub fields : List Field

-- what a file is: all its records, or the place of the first one that is malformed
pub data Split : Type 0 where
  malformed : ℕ → Split
  split : List Entry → Split

-- with a record in front
unfoldable pub entry_before : Entry → Split → Split
entry_before e (malformed p) = malformed p
entry_before e (split es) = split (e ∷ es)

-- a record that was read at a place, and those behind it
unfoldable pub go_on : ℕ → (Left → Split) → Option (List Field × Left) → Split
go_on at rest none = malformed at
go_on at rest (some r) = entry_before (record { at = at; fields = r.0 }) (rest r.1)

-- at most n records, until nothing is left
unfoldable pub records_up_to : ℕ → ℕ → Left → Split
records_up_to zero width l = split []
records_up_to (suc n) width l = cond {A = Left → Split} (is_empty l.bytes) (λ m. split []) (λ m. go_on m.at (records_up_to n width) (record_of width m)) l

-- how many fields were read
unfoldable pub count_read : Option (List Field × Left) → ℕ
count_read none = 0
count_read (some r) = length r.0

-- the number of fields of the first record
unfoldable pub width : List ℕ → ℕ
width file = count_read (fields (from file 0))

-- the records of a file, each of as many fields as the first; each takes a byte at least
unfoldable pub records : List ℕ → Split
records file = records_up_to (length file) (width file) (from file 0)

-- the place of the first record of which a field is no name and no number
unfoldable pub first_unfit : List Entry → Option ℕ
first_unfit [] = none
first_unfit (e ∷ es) = cond (all_of is_value e.fields) (first_unfit es) (some e.at)
