-- Dates in queries (02, Q-14): 31, and that a date is of the wrong type where no column of dates is compared, by computation.
use Prim.Native.Nat.{ℕ}
use Prim.Native.String.{String}
use mathlib.Core.List.{List, [], ◌++◌, ◌∷◌, map}
use mathlib.Core.Option.{Option, bind, none, some}
use mathlib.Core.Path.{◌≡◌, refl}
use Rattle.answer.proofs.Samples.{Case, ◌⇒◌, answer_of, asking, clock_at, ida, policy, refused_at}
use Rattle.answer.specs.Computing.{computing}
use Rattle.query.specs.Query.{missing_date}
use Rattle.query.specs.QueryForm.{query_of}
use Rattle.text.specs.Bytes.{ascii}
use Rattle.text.specs.Words.{Word}

-- ---- 31, of a query alone

-- the date that does not exist in a text that is a query
unfoldable pub missing_in : String → Option Word
missing_in t = bind (query_of (ascii t)) missing_date

-- the text, standing at a position
unfoldable pub standing : ℕ → String → Option Word
standing at t = some (record { at = at; bytes = ascii t })

-- the leftmost such date, whole; none where all dates exist
pub missing_samples : map missing_in (
    "(count u r p t (and (ge a (2024 2 29)) (or (lt b (2023 2 29)) (eq a (0 1 1)))))"
    ∷ "(count u r p t (and (ge a (1 1 1)) (lt a (9999 12 31)) (ne b 5) (eq c x)))"
    ∷ "(count u r p t (not (eq a (10000 1 1))))"
    ∷ "(count u r p t (eq a (-1 1 1)))"
    ∷ [])
    ≡ standing 49 "(2023 2 29)" ∷ none ∷ standing 26 "(10000 1 1)" ∷ standing 21 "(-1 1 1)" ∷ []
unfolding computing missing_in standing
missing_samples = refl

-- ---- dates where none is taken

unfoldable pub date_cases : List Case
date_cases =
    -- 16 comes before 31, at the whole bracket of the date, be there such a date or not
    asking (policy ++ ida) (clock_at 2028 366 10) "(select ana desk post sub (who) (eq due (2023 2 29)))" 60021 ⇒ refused_at 16 40 11
    ∷ asking (policy ++ ida) (clock_at 2028 366 10) "(count ana desk post sub (ne who (2023 3 1)))" 60021 ⇒ refused_at 16 33 10
    -- at the leftmost, which is a date here and an operator behind it
    ∷ asking (policy ++ ida) (clock_at 2028 366 10) "(count ana desk post sub (and (eq due (2023 2 29)) (gt who 5)))" 60021 ⇒ refused_at 16 38 11
    -- 15 comes before
    ∷ asking (policy ++ ida) (clock_at 2028 366 10) "(count ana desk post sub (eq age (2023 2 29)))" 60021 ⇒ refused_at 15 29 3
    -- two numbers and four are no date: no query
    ∷ asking (policy ++ ida) (clock_at 2028 366 10) "(count ana desk post sub (eq due (2023 2)))" 60021 ⇒ refused_at 11 0 43
    ∷ asking (policy ++ ida) (clock_at 2028 366 10) "(count ana desk post sub (eq due (2023 2 29 1)))" 60021 ⇒ refused_at 11 0 48
    ∷ []

-- in every case the definitions say what 02 expects
pub date_samples : map (λ c. answer_of c.question) date_cases ≡ map (λ c. c.expected) date_cases
unfolding computing policy ida clock_at answer_of refused_at ◌⇒◌ date_cases
date_samples = refl
