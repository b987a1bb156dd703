-- The edges of comma-separated files (02, Q-1, and how it is read), as one theorem over a list of tests that compute. Assumes nothing.
use Prim.Native.Nat.{ℕ}
use lib.Dec.{eqb}
use mathlib.Core.Bool.{Bool, ◌&&◌, false, true}
use mathlib.Core.List.{List, [], ◌∷◌}
use mathlib.Core.Path.{◌≡◌, refl}
use Rattle.import.specs.Computing.{computing}
use Rattle.import.specs.Importing.{importing, measure_import}
use Rattle.lists.specs.Lists.{all_of}
use Rattle.text.specs.Bytes.{ascii}
use Rattle.text.specs.Names.{same_name}
use Rattle.text.specs.Refusal.{Refusal, Result, Source, accepted, document, file, query, refused}

-- it is accepted with these bytes
abbrev gave : Result (List ℕ) → List ℕ → Bool
gave (refused r) bs = false
gave (accepted ls) bs = same_name ls bs

-- the text is the file
abbrev in_file : Source → Bool
in_file document = false
in_file query = false
in_file file = true

-- it is refused with this number, and hands back the empty part at this place of the file
abbrev refuses : {A : Type 0} → Result A → ℕ → ℕ → Bool
refuses (refused r) n p = eqb r.number n && (eqb r.start p && (eqb r.len 0 && in_file r.source))
refuses (accepted ls) n p = false

-- the lines have so many bytes
abbrev measures : Result ℕ → ℕ → Bool
measures (refused r) n = false
measures (accepted m) n = eqb m n

-- a file, for the table sub and the label free, and a large buffer
abbrev of : List ℕ → Result (List ℕ)
of bytes = importing bytes (ascii "sub") (ascii "free") 60021

pub samples : all_of (λ t. t)
    -- both line endings, mixed too, and none behind the last record; quoted fields; every record is data
    (gave (of (ascii "")) (ascii "")
    ∷ gave (of (ascii "Ida,40\n")) (ascii "(row sub free Ida 40)\n")
    ∷ gave (of (ascii "Ida,40")) (ascii "(row sub free Ida 40)\n")
    ∷ gave (of (ascii "Ida,40\r\nBo,75\n\"Cy\",\"60\"")) (ascii "(row sub free Ida 40)\n(row sub free Bo 75)\n(row sub free Cy 60)\n")
    ∷ gave (of (ascii "name,due\nIda,-1\n")) (ascii "(row sub free name due)\n(row sub free Ida -1)\n")
    -- 19: the field count differs; quotes break; a lone carriage return
    ∷ refuses (of (ascii "a,b\nc\n")) 19 4
    ∷ refuses (of (ascii "a,b\nc,d,e")) 19 4
    ∷ refuses (of (ascii "a,b\n\nc,d\n")) 19 4
    ∷ refuses (of (ascii "a\n\"b")) 19 2
    ∷ refuses (of (ascii "\"a\"b\n")) 19 0
    ∷ refuses (of (ascii "a\"b\n")) 19 0
    ∷ refuses (of (ascii " \"a\"\n")) 19 0
    ∷ refuses (of (ascii "a\rb\n")) 19 0
    ∷ refuses (of (ascii "a\nb\r")) 19 2
    -- 20: no name and no number; within quotes commas, line endings and doubled quotes are data; a blank line is one empty field
    ∷ refuses (of (ascii "a,5\nb,01\n")) 20 4
    ∷ refuses (of (ascii "a,\n")) 20 0
    ∷ refuses (of (ascii "\"a,b\"\n")) 20 0
    ∷ refuses (of (ascii "\"a\"\"b\"\n")) 20 0
    ∷ refuses (of (ascii "\"a\r\nb\"\n")) 20 0
    ∷ refuses (of (ascii "a\rb\n\"")) 19 0
    ∷ refuses (of (ascii "a\n\nb\n")) 20 2
    ∷ refuses (of (ascii "a\r\n\r\n")) 20 3
    -- 19 goes before 20, wherever they stand; 20 for the table and the label before that of a field
    ∷ refuses (of (ascii "-0\na\n\"x")) 19 5
    ∷ refuses (importing (ascii "a,b\nc") (ascii "5") (ascii "free") 99) 19 4
    ∷ refuses (importing (ascii "a,b\nc,-0\n") (ascii "5") (ascii "free") 99) 20 0
    ∷ refuses (importing (ascii "a\n") (ascii "sub") (ascii "") 99) 20 0
    ∷ refuses (importing (ascii "") (ascii "sub") (ascii "9l") 0) 20 0
    -- 21: `(row sub free Ida 40)` and its line feed are 22 bytes
    ∷ gave (importing (ascii "Ida,40\n") (ascii "sub") (ascii "free") 22) (ascii "(row sub free Ida 40)\n")
    ∷ refuses (importing (ascii "Ida,40\n") (ascii "sub") (ascii "free") 21) 21 0
    ∷ refuses (importing (ascii "-0\n") (ascii "sub") (ascii "free") 0) 20 0
    ∷ gave (importing (ascii "") (ascii "sub") (ascii "free") 0) (ascii "")
    -- measuring: the length, or 19 and 20
    ∷ measures (measure_import (ascii "Ida,40\n") (ascii "sub") (ascii "free")) 22
    ∷ measures (measure_import (ascii "") (ascii "sub") (ascii "free")) 0
    ∷ refuses (measure_import (ascii "a,b\nc") (ascii "5") (ascii "free")) 19 4
    ∷ refuses (measure_import (ascii "a,5\nb,01\n") (ascii "sub") (ascii "free")) 20 4
    ∷ []) ≡ true
unfolding computing
samples = refl
