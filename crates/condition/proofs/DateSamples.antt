-- Comparisons with dates (02, Q-14), as theorems over lists: which texts are conditions, which types fit, and how dates stand to each
-- other. Assumes nothing.
use Prim.Native.Nat.{suc, zero, ℕ}
use mathlib.Core.Bool.{Bool, ◌&&◌, not, true}
use mathlib.Core.List.{List, [], ◌++◌, ◌∷◌, map}
use mathlib.Core.Option
use mathlib.Core.Option.{Option, bind, none, some}
use mathlib.Core.Path.{◌≡◌, refl}
use Rattle.condition.specs.Comparison.{Comparison, meets}
use Rattle.condition.specs.Computing.{computing}
use Rattle.condition.specs.Cond.{comparisons}
use Rattle.condition.specs.CondForm.{condition_in_form, mistyped}
use Rattle.condition.specs.Kinds.{Kind, Op, dates, eq, ge, gt, le, lt, names, ne, numbers}
use Rattle.condition.specs.Ranges.{meets_in, possible, sure}
use Rattle.lists.specs.Lists.{all_of}
use Rattle.text.specs.Bytes.{ascii}
use Rattle.text.specs.Offending.{leftmost}
use Rattle.text.specs.Reader.{whole}

-- the values that a text compares, if it is one condition in a form
unfoldable pub values_in : List ℕ → Option (List (List ℕ))
values_in text = Option.map (λ c. map (λ x. x.value.bytes) (comparisons c)) (whole condition_in_form text)

-- a comparison with a date in n times `not`: n + 2 nested brackets
unfoldable pub dated_in : ℕ → List ℕ
dated_in zero = ascii "(eq d (2028 2 29))"
dated_in (suc n) = ascii "(not " ++ (dated_in n ++ ascii ")")

-- 15 nested brackets are taken, and 16 are not: within the form's own bracket these are 16 and 17. Which dates there are is not asked
pub dates_read : map values_in (
    ascii "(eq d (2028 2 29))"
    ∷ ascii "(and (ge d (2027 1 1)) (lt d (2028 1 1)))"
    ∷ ascii "(eq d (2027 2 29))"
    ∷ ascii "(eq d (-1 0 99999))"
    ∷ dated_in 13
    ∷ dated_in 14
    ∷ ascii "(eq d (2028 2))"
    ∷ ascii "(eq d (2028 2 29 0))"
    ∷ ascii "(eq d (2028 02 29))"
    ∷ ascii "(eq d (2028 feb 29))"
    ∷ ascii "(eq d (2028  2 29))"
    ∷ ascii "(eq d ( 2028 2 29))"
    ∷ ascii "(eq d ((2028 2 29)))"
    ∷ ascii "(eq d (2028 2 29)"
    ∷ ascii "(eq (2028 2 29) d)"
    ∷ [])
    ≡ some (ascii "(2028 2 29)" ∷ [])
    ∷ some (ascii "(2027 1 1)" ∷ ascii "(2028 1 1)" ∷ [])
    ∷ some (ascii "(2027 2 29)" ∷ [])
    ∷ some (ascii "(-1 0 99999)" ∷ [])
    ∷ some (ascii "(2028 2 29)" ∷ [])
    ∷ none ∷ none ∷ none ∷ none ∷ none ∷ none ∷ none ∷ none ∷ none ∷ none
    ∷ []
unfolding computing values_in dated_in
dates_read = refl

-- the place and the bytes of what is of the wrong type, where the compared column is of type k
unfoldable pub mistyped_in : Kind → List ℕ → Option (ℕ × List ℕ)
mistyped_in k text = bind (whole condition_in_form text) (λ c. Option.map (λ w. (w.at, w.bytes)) (leftmost (map (mistyped k) (comparisons c))))

-- a date's whole bracket is what is of the wrong type
pub dates_typed : map (λ (t : Kind × List ℕ). mistyped_in t.0 t.1) (
    (dates, ascii "(eq d (2028 2 29))")
    ∷ (dates, ascii "(ge d (2027 2 29))")
    ∷ (names, ascii "(eq n (2028 2 29))")
    ∷ (numbers, ascii "(lt n (2028 2 29))")
    ∷ (names, ascii "(lt n (2028 2 29))")
    ∷ (dates, ascii "(eq d 2028)")
    ∷ (dates, ascii "(ne d feb)")
    ∷ [])
    ≡ none
    ∷ none
    ∷ some (6, ascii "(2028 2 29)")
    ∷ some (6, ascii "(2028 2 29)")
    ∷ some (1, ascii "lt")
    ∷ some (6, ascii "2028")
    ∷ some (6, ascii "feb")
    ∷ []
unfolding computing mistyped_in
dates_typed = refl

-- a date stands to another as the operator says, and so it is sure and possible
abbrev stand : Op → List ℕ → List ℕ → Bool
stand op v w =
    let c : Comparison = record { of = 0; kind = dates; op = op; value = w } in
    meets c v && (meets_in sure c v && meets_in possible c v)

-- it does not, in any mode
abbrev differ : Op → List ℕ → List ℕ → Bool
differ op v w =
    let c : Comparison = record { of = 0; kind = dates; op = op; value = w } in
    not (meets c v) && (not (meets_in sure c v) && not (meets_in possible c v))

-- by year and then by day number, for each of the six operators
pub dates_stand : all_of (λ t. t) (
    stand eq (ascii "(2028 2 29)") (ascii "(2028 2 29)")
    ∷ differ eq (ascii "(2028 2 29)") (ascii "(2028 3 1)")
    ∷ stand ne (ascii "(2028 2 29)") (ascii "(2027 2 28)")
    ∷ differ ne (ascii "(2028 2 29)") (ascii "(2028 2 29)")
    ∷ stand lt (ascii "(2027 12 31)") (ascii "(2028 1 1)")
    ∷ differ lt (ascii "(2028 1 1)") (ascii "(2027 12 31)")
    ∷ differ lt (ascii "(2028 1 1)") (ascii "(2028 1 1)")
    ∷ stand le (ascii "(2028 2 29)") (ascii "(2028 3 1)")
    ∷ stand le (ascii "(2028 3 1)") (ascii "(2028 3 1)")
    ∷ stand gt (ascii "(2028 10 1)") (ascii "(2028 9 30)")
    ∷ differ gt (ascii "(999 12 31)") (ascii "(1000 1 1)")
    ∷ stand ge (ascii "(9999 12 31)") (ascii "(1 1 1)")
    ∷ [])
    ≡ true
unfolding computing
dates_stand = refl
