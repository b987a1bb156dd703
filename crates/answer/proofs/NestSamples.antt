-- Labels that come down (02, Q-11) in documents and queries: what is answered, by computation. What is refused: document/proofs/NestSamples.
use Prim.Native.Nat.{ℕ}
use mathlib.Core.List.{List, [], ◌++◌, ◌∷◌, map}
use mathlib.Core.Path.{◌≡◌, refl}
use Rattle.answer.proofs.Samples.{Case, ◌⇒◌, answer_of, answered, asking, clock_at, refused_at}
use Rattle.answer.specs.Computing.{computing}
use Rattle.document.proofs.NestSamples.{labels, nest, people, strongly, visits, weakly}
use Rattle.text.specs.Bytes.{ascii}

-- a nest table of numbers, of which three are ranges (02, Q-12); the third row's is closed to post
unfoldable pub meters : List ℕ
meters = ascii "(table m nest (id num) (kwh num))\n(row m again (1 silent) ((3 9) silent))\n(row m again (2 silent) ((10 20) again))\n(row m silent (3 again) ((30 40) notPost))\n(row m again (7 again) (8 again))\n"

unfoldable pub metered : List ℕ
metered = labels ++ meters

-- three visits, the first and the third opened to post by their rows, the second's date closed to it by its own label
unfoldable pub visited : List ℕ
visited = visits ++ ascii "(weak v most)\n(row v again (1 silent) ((2028 2 29) silent))\n(row v silent (2 again) ((2027 12 31) notPost))\n(row v again (3 again) ((2028 3 1) silent))\n"

unfoldable pub nest_cases : List Case
nest_cases =
    -- the table's weak label denies ads, and with it post and all; Bo's row allows post again, and Cy's name is denied it again
    asking weakly (clock_at 2028 366 10) "(select ana desk post t (who))" 60021 ⇒ answered "(row Bo)\n(end 1 2 0)\n" 1 2 0
    ∷ asking weakly (clock_at 2028 366 10) "(select ana desk post t (due))" 60021 ⇒ answered "(row 7)\n(row 9)\n(end 2 1 0)\n" 2 1 0
    -- allowed again downwards only: ads stays denied, and so does all; and there is no 17
    ∷ asking weakly (clock_at 2028 366 10) "(select ana desk ads t (who))" 60021 ⇒ answered "(end 0 3 0)\n" 0 3 0
    ∷ asking weakly (clock_at 2028 366 10) "(select ana desk all t (who))" 60021 ⇒ answered "(end 0 3 0)\n" 0 3 0
    ∷ asking weakly (clock_at 2028 366 10) "(select ana desk bill t (who))" 60021 ⇒ answered "(row Ida)\n(row Bo)\n(row Cy)\n(end 3 0 0)\n" 3 0 0
    -- a row's own label withholds nothing by itself; a blank's condition withholds, and what it only selects is a gap
    ∷ asking weakly (clock_at 2028 366 10) "(count ana desk post t)" 60021 ⇒ answered "(end 3 0 0)\n" 3 0 0
    ∷ asking weakly (clock_at 2028 366 10) "(count ana desk post t (gt due 0))" 60021 ⇒ answered "(end 2 1 0)\n" 2 1 0
    ∷ asking weakly (clock_at 2028 366 10) "(blank ana desk post t (who due))" 60021 ⇒ answered "(row - -)\n(row Bo 7)\n(row - 9)\n(end 3 0 0)\n" 3 0 0
    ∷ asking weakly (clock_at 2028 366 10) "(blank ana desk post t (who) (gt due 0))" 60021 ⇒ answered "(row Bo)\n(row -)\n(end 2 1 0)\n" 2 1 0
    -- a strong label goes before all weak ones: ads and post are open, bill and all are not
    ∷ asking strongly (clock_at 2028 366 10) "(select ana desk post t (who))" 60021 ⇒ answered "(row Ida)\n(row Bo)\n(row Cy)\n(end 3 0 0)\n" 3 0 0
    ∷ asking strongly (clock_at 2028 366 10) "(select ana desk ads t (who))" 60021 ⇒ answered "(row Ida)\n(row Bo)\n(row Cy)\n(end 3 0 0)\n" 3 0 0
    ∷ asking strongly (clock_at 2028 366 10) "(select ana desk bill t (who))" 60021 ⇒ answered "(end 0 3 0)\n" 0 3 0
    -- a strong line alone: it opens post whatever is below it, and leaves bill, of which it says nothing, to the weak labels
    ∷ asking (nest ++ ascii "(strong t again)\n" ++ people) (clock_at 2028 366 10) "(blank ana desk post t (who due))" 60021 ⇒ answered "(row Ida 5)\n(row Bo 7)\n(row Cy 9)\n(end 3 0 0)\n" 3 0 0
    ∷ asking (nest ++ ascii "(strong t again)\n" ++ people) (clock_at 2028 366 10) "(select ana desk bill t (who))" 60021 ⇒ answered "(end 0 3 0)\n" 0 3 0
    ∷ asking (nest ++ ascii "(strong t again)\n(weak t most)\n" ++ people) (clock_at 2028 366 10) "(select ana desk bill t (who))" 60021 ⇒ answered "(row Ida)\n(row Bo)\n(row Cy)\n(end 3 0 0)\n" 3 0 0
    -- a lower label opens what the table's weak label denies, and not what its strong one denies
    ∷ asking (nest ++ ascii "(weak t notPost)\n" ++ people) (clock_at 2028 366 10) "(select ana desk post t (who))" 60021 ⇒ answered "(row Bo)\n(end 1 2 0)\n" 1 2 0
    ∷ asking (nest ++ ascii "(strong t notPost)\n" ++ people) (clock_at 2028 366 10) "(select ana desk post t (who))" 60021 ⇒ answered "(end 0 3 0)\n" 0 3 0
    -- labels with empty sets are as none
    ∷ asking (nest ++ ascii "(strong t silent)\n(weak t silent)\n" ++ people) (clock_at 2028 366 10) "(blank ana desk post t (who due))" 60021 ⇒ answered "(row - -)\n(row Bo 7)\n(row - 9)\n(end 3 0 0)\n" 3 0 0
    -- without weak and strong lines only what rows and cells allow is open; declaring the table public changes nothing
    ∷ asking (nest ++ people) (clock_at 2028 366 10) "(blank ana desk post t (who due))" 60021 ⇒ answered "(row - -)\n(row Bo 7)\n(row - 9)\n(end 3 0 0)\n" 3 0 0
    ∷ asking (nest ++ people) (clock_at 2028 366 10) "(select ana desk bill t (who))" 60021 ⇒ answered "(end 0 3 0)\n" 0 3 0
    ∷ asking (nest ++ ascii "(public t)\n" ++ people) (clock_at 2028 366 10) "(select ana desk bill t (who))" 60021 ⇒ answered "(end 0 3 0)\n" 0 3 0
    -- a weak line behind a row of another table
    ∷ asking (nest ++ ascii "(table u row (a num))\n(row u silent 1)\n(weak t most)\n" ++ people) (clock_at 2028 366 10) "(select ana desk post t (who))" 60021 ⇒ answered "(row Bo)\n(end 1 2 0)\n" 1 2 0
    -- ranges: a row is withheld for its closed range, whatever its ends; the others are passed surely or possibly
    ∷ asking metered (clock_at 2028 366 10) "(sure ana desk post m (id kwh) (lt kwh 15))" 60021 ⇒ answered "(row 1 (3 9))\n(row 7 8)\n(end 2 1 1)\n" 2 1 1
    ∷ asking metered (clock_at 2028 366 10) "(possible ana desk post m (id kwh) (lt kwh 15))" 60021 ⇒ answered "(row 1 (3 9))\n(row 2 (10 20))\n(row 7 8)\n(end 3 1 0)\n" 3 1 0
    ∷ asking metered (clock_at 2028 366 10) "(sure ana desk post m (id) (not (ge kwh 15)))" 60021 ⇒ answered "(row 1)\n(row 7)\n(end 2 1 1)\n" 2 1 1
    ∷ asking metered (clock_at 2028 366 10) "(sure ana desk ads m (id kwh))" 60021 ⇒ answered "(end 0 4 0)\n" 0 4 0
    ∷ asking metered (clock_at 2028 366 10) "(blank ana desk post m (id) (gt id 1))" 60021 ⇒ answered "(row 2)\n(row 3)\n(row 7)\n(end 3 0 1)\n" 3 0 1
    -- dates: printed as they stand, compared as dates; a closed one withholds its row, and is a gap where it is only selected
    ∷ asking visited (clock_at 2028 366 10) "(select ana desk post v (id on) (lt on (2028 3 1)))" 60021 ⇒ answered "(row 1 (2028 2 29))\n(end 1 1 1)\n" 1 1 1
    ∷ asking visited (clock_at 2028 366 10) "(blank ana desk post v (on))" 60021 ⇒ answered "(row (2028 2 29))\n(row -)\n(row (2028 3 1))\n(end 3 0 0)\n" 3 0 0
    ∷ asking visited (clock_at 2028 366 10) "(blank ana desk post v (id) (ge on (2028 3 1)))" 60021 ⇒ answered "(row 3)\n(end 1 1 1)\n" 1 1 1
    ∷ asking visited (clock_at 2028 366 10) "(count ana desk post v (eq on (2027 12 31)))" 60021 ⇒ answered "(end 0 1 2)\n" 0 1 2
    -- 27 where a select or a blank names the ranged column, open to the purpose or not
    ∷ asking metered (clock_at 2028 366 10) "(select ana desk post m (kwh))" 60021 ⇒ refused_at 27 25 3
    ∷ asking metered (clock_at 2028 366 10) "(select ana desk ads m (kwh))" 60021 ⇒ refused_at 27 24 3
    ∷ asking metered (clock_at 2028 366 10) "(blank ana desk post m (id kwh))" 60021 ⇒ refused_at 27 27 3
    ∷ asking metered (clock_at 2028 366 10) "(blank ana desk post m (id) (gt kwh 1))" 60021 ⇒ refused_at 27 32 3
    ∷ []

-- in every case the definitions say what 02 expects
pub nest_samples : map (λ c. answer_of c.question) nest_cases ≡ map (λ c. c.expected) nest_cases
unfolding computing labels nest people visits weakly strongly meters metered visited clock_at answer_of answered refused_at ◌⇒◌ nest_cases
nest_samples = refl
