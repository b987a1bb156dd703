-- Sure and possible (02, Q-12), and 27, on a few rows, by computation.
use Prim.Native.Nat.{ℕ}
use mathlib.Core.List.{List, [], ◌++◌, ◌∷◌, map}
use mathlib.Core.Path.{◌≡◌, refl}
use Rattle.answer.proofs.Samples.{Case, ◌⇒◌, answer_of, answered, asking, clock_at, ida, policy, refused_at}
use Rattle.answer.specs.Computing.{computing}
use Rattle.text.specs.Bytes.{ascii}

-- a range that is open, and one that is closed; a table with a closed column
unfoldable pub ranged : List ℕ
ranged = policy ++ ida ++ ascii "(row sub (Bo free) ((30 50) free))\n(row sub (Cy free) ((10 75) noads))\n(table old column (who name free) (due num noads))\n(row old Ed (5 5))\n"

-- the only range lies in a row that is withheld
unfoldable pub ranged_shut : List ℕ
ranged_shut = policy ++ ida ++ ascii "(row sub (Cy free) ((10 75) noads))\n"

unfoldable pub range_cases : List Case
range_cases =
    -- a range is printed as it was written; sure is for every number, possible for some
    asking ranged (clock_at 2028 366 10) "(sure ana desk post sub (who due) (ge due 30))" 60021 ⇒ answered "(row Ida 40)\n(row Bo (30 50))\n(end 2 1 0)\n" 2 1 0
    ∷ asking ranged (clock_at 2028 366 10) "(sure ana desk post sub (who) (gt due 45))" 60021 ⇒ answered "(end 0 1 2)\n" 0 1 2
    ∷ asking ranged (clock_at 2028 366 10) "(possible ana desk post sub (who) (gt due 45))" 60021 ⇒ answered "(row Bo)\n(end 1 1 1)\n" 1 1 1
    -- `(not c)` is sure where c is not possible, and possible where c is not sure
    ∷ asking ranged (clock_at 2028 366 10) "(sure ana desk post sub (who) (not (gt due 45)))" 60021 ⇒ answered "(row Ida)\n(end 1 1 1)\n" 1 1 1
    ∷ asking ranged (clock_at 2028 366 10) "(possible ana desk post sub (who) (not (gt due 45)))" 60021 ⇒ answered "(row Ida)\n(row Bo)\n(end 2 1 0)\n" 2 1 0
    -- `or` works on each separately: neither part is sure of Bo's
    ∷ asking ranged (clock_at 2028 366 10) "(sure ana desk post sub (who) (or (lt due 40) (ge due 40)))" 60021 ⇒ answered "(row Ida)\n(end 1 1 1)\n" 1 1 1
    -- without a condition every row passes that is not withheld
    ∷ asking ranged (clock_at 2028 366 10) "(SURE ana desk post sub (due))" 60021 ⇒ answered "(row 40)\n(row (30 50))\n(end 2 1 0)\n" 2 1 0
    -- 27, at the column: selected, in the condition; of a select, a count and a blank; not where the column is not named
    ∷ asking ranged (clock_at 2028 366 10) "(select ana desk post sub (who due))" 60021 ⇒ refused_at 27 31 3
    ∷ asking ranged (clock_at 2028 366 10) "(count ana desk post sub (eq due 40))" 60021 ⇒ refused_at 27 29 3
    ∷ asking ranged (clock_at 2028 366 10) "(blank ana desk post sub (who) (eq due 40))" 60021 ⇒ refused_at 27 35 3
    ∷ asking ranged (clock_at 2028 366 10) "(select ana desk post sub (who))" 60021 ⇒ answered "(row Ida)\n(row Bo)\n(row Cy)\n(end 3 0 0)\n" 3 0 0
    -- for a range in a withheld row too
    ∷ asking ranged_shut (clock_at 2028 366 10) "(select ana desk post sub (due))" 60021 ⇒ refused_at 27 27 3
    -- after 16, before 17; a query that takes ranges gets 17
    ∷ asking ranged (clock_at 2028 366 10) "(select ana desk post sub (due) (eq who 5))" 60021 ⇒ refused_at 16 40 1
    ∷ asking ranged (clock_at 2028 366 10) "(select ana desk post old (due))" 60021 ⇒ refused_at 27 27 3
    ∷ asking ranged (clock_at 2028 366 10) "(sure ana desk post old (due))" 60021 ⇒ refused_at 17 25 3
    -- a comparison takes no range
    ∷ asking ranged (clock_at 2028 366 10) "(sure ana desk post sub (who) (eq due (1 2)))" 60021 ⇒ refused_at 11 0 45
    ∷ []

-- in every case the definitions say what 02 expects
pub range_samples : map (λ c. answer_of c.question) range_cases ≡ map (λ c. c.expected) range_cases
unfolding computing policy ida ranged ranged_shut clock_at answer_of answered refused_at ◌⇒◌ range_cases
range_samples = refl
