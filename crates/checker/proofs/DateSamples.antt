-- Dates in a document (02, Q-14): what its check says, as one theorem over a list of tests that compute. Assumes nothing.
use Prim.Native.Nat.{ℕ}
use Prim.Native.String.{String}
use lib.Dec.{eqb}
use mathlib.Core.Bool.{Bool, ◌&&◌, false, true}
use mathlib.Core.List.{List, [], ◌++◌, ◌∷◌}
use mathlib.Core.Path.{◌≡◌, refl}
use Rattle.document.specs.Check.{Accepted, check}
use Rattle.document.specs.Computing.{computing}
use Rattle.lists.specs.Lists.{all_of}
use Rattle.text.specs.Bytes.{ascii}
use Rattle.text.specs.Refusal.{Refusal, Result, accepted, refused}

-- a purpose, a label, an attribute and three tables with a column of dates: without labels, by cell and by row
abbrev front : List ℕ
front = ascii "(purpose a)\n(label l (allow a) (deny))\n(role r)\n(attr r n num)\n(table p none (x date) (y num) (z name))\n(table c cell (x date))\n(table w row (x DATE))\n"

-- the document is accepted
abbrev fine : Result Accepted → Bool
fine (accepted x) = true
fine (refused r) = false

-- it is refused with this number, and hands back the part of this start and length
abbrev wrong : ℕ → ℕ → ℕ → Result Accepted → Bool
wrong n s k (accepted x) = false
wrong n s k (refused r) = eqb r.number n && (eqb r.start s && eqb r.len k)

-- the check of these lines behind the front
abbrev on : String → Result Accepted
on l = check (front ++ ascii l)

pub samples : all_of (λ t. t)
    -- dates that exist, the first and the last among them, and ranges beside them
    (fine (on "(row p (2028 2 29) 1 b)\n")
    ∷ fine (on "(row p (1 1 1) (1 5) b)\n(row p (9999 12 31) 1 b)\n(row p (2000 2 29) 1 b)\n")
    -- 31 at the bracket: no such day, month or year
    ∷ wrong 31 158 11 (on "(row p (2027 2 29) 1 b)\n")
    ∷ wrong 31 158 11 (on "(row p (1900 2 29) 1 b)\n")
    ∷ wrong 31 158 11 (on "(row p (2028 4 31) 1 b)\n")
    ∷ wrong 31 158 11 (on "(row p (2028 13 1) 1 b)\n")
    ∷ wrong 31 158 10 (on "(row p (2028 0 1) 1 b)\n")
    ∷ wrong 31 158 10 (on "(row p (2028 1 0) 1 b)\n")
    ∷ wrong 31 158 7 (on "(row p (0 1 1) 1 b)\n")
    ∷ wrong 31 158 11 (on "(row p (10000 1 1) 1 b)\n")
    ∷ wrong 31 158 8 (on "(row p (-1 1 1) 1 b)\n")
    -- 8 and 28 come before it
    ∷ wrong 8 172 1 (on "(row p (2027 2 29) 1 2)\n")
    ∷ wrong 28 170 5 (on "(row p (2027 2 29) (5 1) b)\n")
    -- 8: a number, a name or a range in a date column, a date in another
    ∷ wrong 8 158 1 (on "(row p 5 1 b)\n")
    ∷ wrong 8 158 1 (on "(row p b 1 b)\n")
    ∷ wrong 8 158 5 (on "(row p (1 5) 1 b)\n")
    ∷ wrong 8 170 11 (on "(row p (2028 2 29) (2027 2 29) b)\n")
    ∷ wrong 8 172 11 (on "(row p (2028 2 29) 1 (2028 2 29))\n")
    -- by cell: with its label; bare it has no label to look up, and its shape is wrong
    ∷ fine (on "(row c ((2028 2 29) l))\n")
    ∷ wrong 7 151 19 (on "(row c (2028 2 29))\n")
    ∷ wrong 5 171 1 (on "(row c ((2027 2 29) z))\n")
    ∷ wrong 31 159 11 (on "(row c ((2027 2 29) l))\n")
    -- by row: the first item is a label only if it is a name
    ∷ fine (on "(row w l (2028 2 29))\n")
    ∷ wrong 7 151 21 (on "(row w (2028 2 29) l)\n")
    ∷ wrong 31 160 11 (on "(row w l (2027 2 29))\n")
    -- no forms: a name or a fourth number in the bracket, an end beyond the numbers of a text, a date for a user or an attribute
    ∷ wrong 2 151 22 (on "(row p (2028 2 x) 1 b)\n")
    ∷ wrong 2 151 25 (on "(row p (2028 2 29 1) 1 b)\n")
    ∷ wrong 2 151 38 (on "(row p (9223372036854775808 2 29) 1 b)\n")
    ∷ wrong 2 151 26 (on "(user u r (n (2028 2 29)))\n")
    ∷ wrong 2 151 15 (on "(attr r m date)\n")
    -- a column of type date may have a label
    ∷ fine (on "(table q column (x date l) (y num l))\n(row q (2028 2 29) 5)\n")
    ∷ []) ≡ true
unfolding computing
samples = refl
