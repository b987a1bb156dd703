-- Ranges in a document (02, Q-12): what its check says, as one theorem over a list of tests that compute. Assumes nothing.
use Prim.Native.Nat.{ℕ}
use Prim.Native.String.{String}
use lib.Dec.{eqb}
use mathlib.Core.Bool.{Bool, ◌&&◌, false, true}
use mathlib.Core.List.{List, [], ◌++◌, ◌∷◌}
use mathlib.Core.Path.{◌≡◌, refl}
use Rattle.document.specs.Check.{Accepted, check}
use Rattle.document.specs.Computing.{computing}
use Rattle.lists.specs.Lists.{all_of}
use Rattle.text.specs.Bytes.{ascii}
use Rattle.text.specs.Refusal.{Refusal, Result, accepted, refused}

-- a purpose, a label, an attribute and three tables: without labels, by cell and by row
abbrev front : List ℕ
front = ascii "(purpose a)\n(label l (allow a) (deny))\n(role r)\n(attr r n num)\n(table p none (x num) (y name))\n(table c cell (x num))\n(table w row (x num))\n"

-- the document is accepted
abbrev fine : Result Accepted → Bool
fine (accepted x) = true
fine (refused r) = false

-- it is refused with this number, and hands back the part of this start and length
abbrev wrong : ℕ → ℕ → ℕ → Result Accepted → Bool
wrong n s k (accepted x) = false
wrong n s k (refused r) = eqb r.number n && (eqb r.start s && eqb r.len k)

-- the check of these lines behind the front
abbrev on : String → Result Accepted
on l = check (front ++ ascii l)

pub samples : all_of (λ t. t)
    -- a value of a num column; LOW may be HIGH
    (fine (on "(row p (1 5) b)\n")
    ∷ fine (on "(row p (5 5) b)\n(row p (-3 -3) b)\n(row p 7 b)\n")
    -- 28 at the bracket, after 8; 8 at the bracket in a name column
    ∷ wrong 28 147 5 (on "(row p (5 1) b)\n")
    ∷ wrong 28 147 7 (on "(row p (-1 -3) b)\n")
    ∷ wrong 8 149 5 (on "(row p 1 (1 5))\n")
    ∷ wrong 8 153 5 (on "(row p (5 1) (1 5))\n")
    -- an end beyond the numbers of a text
    ∷ wrong 2 140 33 (on "(row p (1 9223372036854775808) b)\n")
    -- by cell: with its label; bare it has no label to look up, and its shape is wrong
    ∷ fine (on "(row c ((1 5) l))\n(row c (1 l))\n")
    ∷ wrong 7 140 13 (on "(row c (1 5))\n")
    ∷ wrong 5 154 1 (on "(row c ((1 5) z))\n")
    ∷ wrong 28 148 5 (on "(row c ((5 1) l))\n")
    -- by row: the first item is a label only if it is a name
    ∷ wrong 7 140 15 (on "(row w (1 5) 3)\n")
    ∷ fine (on "(row w l (1 5))\n")
    ∷ wrong 28 149 5 (on "(row w l (5 1))\n")
    ∷ wrong 5 147 1 (on "(row w z (5 1))\n")
    -- `(1 x)` is `(v L)`, three numbers are a date, and users take no range
    ∷ wrong 7 140 15 (on "(row p (1 x) b)\n")
    ∷ wrong 8 147 7 (on "(row p (1 5 7) b)\n")
    ∷ wrong 2 140 20 (on "(user u r (n (1 5)))\n")
    ∷ []) ≡ true
unfolding computing
samples = refl
