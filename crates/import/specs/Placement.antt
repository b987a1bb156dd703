-- Contract: what the functions say that write row lines: they go by the file's positions, and are right where the file was read there and its fields are names and numbers.
use Rattle.std.specs.Prelude.{◌+◌, ◌-◌, ◌<◌, ◌≤◌, ℕ, drop, length, true, List, [], ◌∷◌, ◌≡◌}
use Rattle.std.proofs.Math.Option.{none, some}
use Rattle.form.specs.RowText.{spaced}
use Rattle.csv_text.specs.Fields.{Field, field, plain_bytes}
use Rattle.import.specs.Importing.{record_line, record_lines}
use Rattle.csv_text.specs.Records.{Entry, fields, first_unfit, records, split}
use Rattle.import.specs.declared.rows.Placed.{Placed}
use Rattle.lists.specs.Lists.{all_of}
use Rattle.text.specs.Names.{Name}
use Rattle.text.specs.Numbers.{is_value}
use Rattle.text.specs.Reader.{Left, from}
use Rattle.writing.specs.Write.{Wrote}

-- the bytes were written, and r says where to go on in the buffer and in the file
pub record Placing (l : Left) (before : List ℕ) (to : ℕ) (bytes after : List ℕ) (r : Placed) : Type 0 where
  pub wrote : Wrote before to bytes after r.to
  pub next : r.at ≡ l.at

-- from `at` on to r, the file has bytes and the buffer room for them, from `to` on
pub record Reaching (len at room to r : ℕ) : Type 0 where
  pub from : at ≤ r
  pub inside : at < r → r ≤ len
  pub fits : at < r → to + (r - at) ≤ room

-- plain bytes at a position were written, all of them or as far as `end`: to write what is left at r comes to the same as to write all
pub record PlainCopying (s : List ℕ) (at end : ℕ) (before : List ℕ) (to : ℕ) (after : List ℕ) (r : Placed) : Type 0 where
  pub kept : length after ≡ length before
  pub ends : r.at + length (plain_bytes (drop r.at s)) ≡ at + length (plain_bytes (drop at s))
  pub stop : r.at < end → plain_bytes (drop r.at s) ≡ []
  pub rest : (next : ℕ) (last : List ℕ) → Wrote after r.to (plain_bytes (drop r.at s)) last next → Wrote before to (plain_bytes (drop at s)) last next

-- the plain bytes at a position were written, and r says where to go on
pub record PlainCopied (s : List ℕ) (at : ℕ) (before : List ℕ) (to : ℕ) (after : List ℕ) (r : Placed) : Type 0 where
  pub wrote : Wrote before to (plain_bytes (drop at s)) after r.to
  pub ends : r.at ≡ at + length (plain_bytes (drop at s))

-- a space and a field; in any case the buffer keeps its length, and r goes on in the file
pub record FieldPlaced (s : List ℕ) (at : ℕ) (before : List ℕ) (to : ℕ) (after : List ℕ) (r : Placed) : Type 0 where
  pub kept : length after ≡ length before
  pub on : at ≤ r.at
  pub placed : (v : Field) (l : Left) → field (from s at) ≡ some (v, l) → is_value v ≡ true → Placing l before to (32 ∷ v) after r

-- the fields of a record, each behind a space
pub record FieldsPlaced (s : List ℕ) (at : ℕ) (before : List ℕ) (to : ℕ) (after : List ℕ) (r : Placed) : Type 0 where
  pub kept : length after ≡ length before
  pub placed : (vs : List Field) (l : Left) → fields (from s at) ≡ some (vs, l) → all_of is_value vs ≡ true → Placing l before to (spaced vs) after r

-- the row line of a record
pub record RowPlaced (s : List ℕ) (at : ℕ) (t label : Name) (before : List ℕ) (to : ℕ) (after : List ℕ) (r : Placed) : Type 0 where
  pub kept : length after ≡ length before
  pub placed : (vs : List Field) (l : Left) → fields (from s at) ≡ some (vs, l) → all_of is_value vs ≡ true → Placing l before to (record_line t label vs) after r

-- the row lines of a file
pub record RowsPlaced (s : List ℕ) (count : ℕ) (t label : Name) (before after : List ℕ) (next : ℕ) : Type 0 where
  pub kept : length after ≡ length before
  pub placed : (es : List Entry) → records s ≡ split es → first_unfit es ≡ none → count ≡ length es → Wrote before 0 (record_lines t label es) after next
