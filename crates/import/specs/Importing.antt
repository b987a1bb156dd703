-- Meaning: importing a comma-separated file as row lines (02, Q-1): 19, 20 and 21 in that order, the lines, and the lent buffer afterwards.
use Rattle.std.specs.Prelude.{ℕ, ltb, drop, length, ◌&&◌, not}
use mathlib.Core.List.{List, [], ◌++◌, ◌∷◌, flatten, map}
use Rattle.std.proofs.Math.Option.{Option, none, some}
use Rattle.form.specs.Form.{Scheme, by_row}
use Rattle.form.specs.RowText.{row_text}
use Rattle.csv_text.specs.Fields.{Field}
use Rattle.csv_text.specs.Records.{Entry, Split, first_unfit, malformed, records, split}
use Rattle.text.specs.Bytes.{ascii}
use Rattle.text.specs.Names.{Name, is_name}
use Rattle.text.specs.Refusal.{Refusal, Result, ◌>>=◌, ◌>>◌, accepted, file, refuse_if, refused}

-- the refusal of this number, which hands back the empty part at a place of the file
unfoldable pub refusal_at : ℕ → ℕ → Refusal
refusal_at n place = record { number = n; source = file; start = place; len = 0 }

-- the records of a file without a malformed one (19)
unfoldable pub well_formed : Split → Result (List Entry)
well_formed (malformed place) = refused (refusal_at 19 place)
well_formed (split es) = accepted es

-- 20 at such a record, where there is one
unfoldable pub refuse_unfit : Option ℕ → Result (Unit {0})
refuse_unfit none = accepted tt
refuse_unfit (some place) = refused (refusal_at 20 place)

-- rows with one label each
abbrev pub one_label : Scheme Name
one_label = by_row

-- the row line of a record, `(row T L v ..)`, with its line feed (byte 10)
unfoldable pub record_line : Name → Name → List Field → List ℕ
record_line t l vs = row_text one_label (ascii "row") t (l ∷ []) vs ++ 10 ∷ []

-- the row lines of all records
unfoldable pub record_lines : Name → Name → List Entry → List ℕ
record_lines t l es = flatten (map (λ e. record_line t l e.fields) es)

-- records of which lines can be written: 20 for the table and the label, 20 for a field, 21; `room` is the lent buffer's length
unfoldable pub if_writable : (table label : Name) (room : ℕ) → List Entry → Result (List Entry)
if_writable t l room es = do
  refuse_if (not (is_name t && is_name l)) (refusal_at 20 0)
  refuse_unfit (first_unfit es)
  refuse_if (ltb room (length (record_lines t l es))) (refusal_at 21 0)
  accepted es

-- the records of a file of which lines can be written: 19, and what follows
unfoldable pub importable : (bytes : List ℕ) (table label : Name) (room : ℕ) → Result (List Entry)
importable bytes t l room = do
  es ← well_formed (records bytes)
  if_writable t l room es

-- what importing gives for the bytes of a file, a table and a label: the row lines
unfoldable pub importing : (bytes : List ℕ) (table label : Name) (room : ℕ) → Result (List ℕ)
importing bytes t l room = do
  es ← importable bytes t l room
  accepted (record_lines t l es)

-- the lines' length only
unfoldable pub length_only : Result (List ℕ) → Result ℕ
length_only o = do
  ls ← o
  accepted (length ls)

-- no lent buffer is longer: 2^63 - 1 bytes
unfoldable pub longest_buffer : ℕ
longest_buffer = 9223372036854775807

-- how long a buffer has to be: the lines' length, or the refusal that every buffer gets
unfoldable pub measure_import : (bytes : List ℕ) (table label : Name) → Result ℕ
measure_import bytes t l = length_only (importing bytes t l longest_buffer)

-- the lent buffer afterwards: the lines fill its first bytes, a refusal leaves it as it was
unfoldable pub after_import : Result (List ℕ) → List ℕ → List ℕ
after_import (refused r) buffer = buffer
after_import (accepted ls) buffer = ls ++ drop (length ls) buffer
