-- Names without case (02, Q-8) in a session of its own: one purpose, role, user, label, table and column in several spellings, keywords
-- of lines, queries and the clock line, types, and values that `eq` takes for one and that are printed as written. By computation.
use Prim.Native.Nat.{ℕ}
use mathlib.Core.Bool.{false, true}
use mathlib.Core.List.{List, [], ◌++◌, ◌∷◌, map}
use mathlib.Core.Path.{◌≡◌, refl}
use Rattle.answer.proofs.Samples.{Case, ◌⇒◌, answer_of, answered, asking, clock_at, opened, opened_in, opening, refused_at}
use Rattle.answer.specs.Computing.{computing}
use Rattle.text.specs.Bytes.{ascii}
use Rattle.answer.specs.Session as Session

-- each name is used in another case than it is defined in
unfoldable pub cased : List ℕ
cased =
    ascii "(Purpose all)\n"
    ++ ascii "(purpose Ads ALL)\n"
    ++ ascii "(ROLE desk)\n"
    ++ ascii "(attr DESK level NUM)\n"
    ++ ascii "(User ana Desk (LEVEL 5))\n"
    ++ ascii "(Cond-Role any desk (And (GE Level 5) (lt HOUR 17)))\n"
    ++ ascii "(GRANT ads ANY)\n"
    ++ ascii "(label free (ALLOW all) (deny))\n"
    ++ ascii "(label noads (Allow all) (Deny ADS))\n"
    ++ ascii "(table Sub CELL (who NAME) (due num))\n"
    ++ ascii "(ROW sub (Ida FREE) (40 free))\n"
    ++ ascii "(row SUB (ida free) (75 NoAds))\n"
    ++ ascii "(Row sub (i_a free) (60 Free))\n"

unfoldable pub case_cases : List Case
case_cases =
    -- values that differ in case pass `eq`, and each is printed as its row line wrote it
    asking cased (clock_at 2028 366 10) "(SELECT Ana DESK ads sub (WHO) (Eq who IDA))" 60021 ⇒ answered "(row Ida)\n(row ida)\n(end 2 0 1)\n" 2 0 1
    ∷ asking cased (clock_at 2028 366 10) "(select ana desk ADS sub (who) (ne Who iDA))" 60021 ⇒ answered "(row i_a)\n(end 1 0 2)\n" 1 0 2
    -- `_` and `-` have no case
    ∷ asking cased (clock_at 2028 366 10) "(Count ana desk Ads SUB (eq who i-a))" 60021 ⇒ answered "(end 0 0 3)\n" 0 0 3
    -- a label and the purpose that it denies
    ∷ asking cased (clock_at 2028 366 10) "(select ana desk aDs sub (who DUE))" 60021 ⇒ answered "(row Ida 40)\n(row i_a 60)\n(end 2 1 0)\n" 2 1 0
    ∷ opening cased "NOADS" "ads" ⇒ opened false
    ∷ opening cased "Free" "aDS" ⇒ opened true
    -- the clock's names
    ∷ asking cased (clock_at 2028 366 17) "(select ana desk ADS sub (who))" 60021 ⇒ refused_at 14 17 3
    ∷ []

-- in every case the definitions say what 02 expects
pub case_samples : map (λ c. answer_of c.question) case_cases ≡ map (λ c. c.expected) case_cases
unfolding computing cased clock_at opened_in answer_of answered refused_at ◌⇒◌ case_cases
case_samples = refl

-- the clock line's keyword; a second definition in another case is 4, of a purpose, a user's role, and a column
pub case_sessions : Session.session cased (ascii "(CLOCK 2028 366 10)\n(count ana desk ads sub)\n")
    ∷ Session.session (ascii "(purpose ads)\n(purpose Ads ads)\n") (ascii "(clock 2028 366 10)\n")
    ∷ Session.session (ascii "(role desk)\n(user ana desk)\n(user Ana DESK)\n") (ascii "(clock 2028 366 10)\n")
    ∷ Session.session (ascii "(table t none (a num) (A num))\n") (ascii "(clock 2028 366 10)\n")
    ∷ []
    ≡ ascii "(end 3 0 0)\n"
    ∷ ascii "(refused 4 document 23 3)\n"
    ∷ ascii "(refused 4 document 38 4)\n"
    ∷ ascii "(refused 4 document 23 1)\n"
    ∷ []
unfolding computing cased
case_sessions = refl
