-- Meaning: comma-separated files as RFC 4180 lets them be written: what the theorems of proofs/Rendered and proofs/WrittenSo speak of.
use Rattle.std.specs.Prelude.{ℕ, eqb, length, Bool, ◌&&◌, ◌||◌, cond, not, true, List, [], ◌++◌, ◌∷◌, map, ◌≡◌}
use Rattle.csv_text.specs.Fields.{Field, is_plain}
use Rattle.csv_text.specs.Records.{Entry, records, split, width}
use Rattle.lists.specs.Lists.{all_of, is_empty}

-- a field as it is written: in quotes, or bare
pub record Cell : Type 0 where
  pub in_quotes : Bool
  pub says : Field

-- how a record ends: with a line feed, with a carriage return and a line feed, or with the file
pub data Ending : Type 0 where
  feed return_feed file_end : Ending

-- a record as it is written: a field, the others, and its end
pub record Line : Type 0 where
  pub first : Cell
  pub others : List Cell
  pub ending : Ending

-- the bytes with each quote doubled
unfoldable pub doubled : Field → List ℕ
doubled [] = []
doubled (b ∷ bs) = cond (eqb b 34) (34 ∷ 34 ∷ doubled bs) (b ∷ doubled bs)

-- a field's bytes in the file
unfoldable pub cell_text : Cell → List ℕ
cell_text c = cond c.in_quotes (34 ∷ (doubled c.says ++ 34 ∷ [])) c.says

-- any field may stand in quotes, and one of plain bytes bare
unfoldable pub is_cell : Cell → Bool
is_cell c = c.in_quotes || all_of is_plain c.says

-- the fields of a record with commas between them, and then some bytes
unfoldable pub cells_text : Cell → List Cell → List ℕ → List ℕ
cells_text c [] end = cell_text c ++ end
cells_text c (d ∷ ds) end = cell_text c ++ 44 ∷ cells_text d ds end

-- a record's end, and then some bytes
unfoldable pub end_text : Ending → List ℕ → List ℕ
end_text feed rest = 10 ∷ rest
end_text return_feed rest = 13 ∷ 10 ∷ rest
end_text file_end rest = rest

-- the bytes of a file
unfoldable pub file_text : List Line → List ℕ
file_text [] = []
file_text (r ∷ rs) = cells_text r.first r.others (end_text r.ending (file_text rs))

-- what a record says
unfoldable pub line_fields : Line → List Field
line_fields r = r.first.says ∷ map (λ c. c.says) r.others

-- each field of the record may be written so, and there are n of them
unfoldable pub is_line : ℕ → Line → Bool
is_line n r = is_cell r.first && (all_of is_cell r.others && eqb (length (line_fields r)) n)

-- an end that is the file's is allowed where the test holds
unfoldable pub ends_by : Ending → Bool → Bool
ends_by feed t = true
ends_by return_feed t = true
ends_by file_end t = t

-- a record may end with the file if no other follows, and it has a byte
unfoldable pub ends_well : Line → List Line → Bool
ends_well r rs = ends_by r.ending (is_empty rs && not (is_empty (cells_text r.first r.others [])))

-- so it is with each
unfoldable pub is_file : List Line → Bool
is_file [] = true
is_file (r ∷ rs) = ends_well r rs && is_file rs

-- the file is written in lines of as many fields as the first, and says what the entries have
pub record WrittenAs (file : List ℕ) (entries : List Entry) : Type 0 where
  pub lines : List Line
  pub text : file ≡ file_text lines
  pub wide : all_of (is_line (width file)) lines ≡ true
  pub whole : is_file lines ≡ true
  pub say : map (λ e. e.fields) entries ≡ map line_fields lines

-- the records of a file that is written in these lines
pub record ReadAs (lines : List Line) : Type 0 where
  pub entries : List Entry
  pub are : records (file_text lines) ≡ split entries
  pub say : map (λ e. e.fields) entries ≡ map line_fields lines
