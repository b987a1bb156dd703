-- The sample session of 01 and its cases marked *, and tables without labels (02, Q-2): theorems over lists of cases, by computation.
use Prim.Native.Nat.{◌+◌, ℕ}
use Prim.Native.String.{String}
use lib.ListN.{length}
use mathlib.Core.Bool.{Bool, false, true}
use mathlib.Core.List.{List, [], ◌++◌, ◌∷◌, map}
use mathlib.Core.Path.{◌≡◌, refl}
use Rattle.document.specs.Check.{Accepted, check}
use Rattle.document.specs.Lookup.{label_of, purpose_of}
use Rattle.document.specs.Open.{label_open}
use Rattle.answer.specs.Ask.{Outcome, ask}
use Rattle.answer.specs.Computing.{computing}
use Rattle.query.specs.Authority.{Clock}
use Rattle.text.specs.Bytes.{ascii}
use Rattle.lists.specs.Lists.{or_zero}
use Rattle.text.specs.Refusal.{Result, accepted, document, query, refused}
use Rattle.text.specs.Words.{Word, plain_word}
use Rattle.answer.specs.Session as Session

-- the sample session's policy, up to its rows
unfoldable pub policy : List ℕ
policy =
    ascii "(purpose all)\n"
    ++ ascii "(purpose bill all)\n"
    ++ ascii "(purpose ads all)\n"
    ++ ascii "(purpose post ads)\n"
    ++ ascii "(role desk)\n"
    ++ ascii "(attr desk level num)\n"
    ++ ascii "(user ana desk (level 5))\n"
    ++ ascii "(cond-role senior desk (and (ge level 5) (lt hour 17)))\n"
    ++ ascii "(grant ads senior)\n"
    ++ ascii "(label free (allow all) (deny))\n"
    ++ ascii "(label noads (allow all) (deny ads))\n"
    ++ ascii "(table sub cell (who name) (due num))\n"

-- the rows above and below Bo's
unfoldable pub ida : List ℕ
ida = ascii "(row sub (Ida free) (40 free))\n"

unfoldable pub cy : List ℕ
cy = ascii "(row sub (Cy free) (60 free))\n"

-- the session as it stands
unfoldable pub session : List ℕ
session = policy ++ ida ++ ascii "(row sub (Bo free) (75 noads))\n" ++ cy

-- the same with Bo's 75 made 10
unfoldable pub session10 : List ℕ
session10 = policy ++ ida ++ ascii "(row sub (Bo free) (10 noads))\n" ++ cy

-- two labels more: with no purpose allowed, and with the root denied
unfoldable pub labelled : List ℕ
labelled = session ++ ascii "(label shut (allow) (deny))\n(label rootless (allow all) (deny all))\n"

-- a clock
unfoldable pub clock_at : ℕ → ℕ → ℕ → Clock
clock_at y d h = record { year = y; day = d; hour = h }

-- a question: a query under a clock, with a buffer of `room` bytes; or whether a label of the text opens a purpose
pub data Question : Type 0 where
  asking : (text : List ℕ) (clock : Clock) (q : String) (room : ℕ) → Question
  opening : (text : List ℕ) (l p : String) → Question

-- what a question finds
pub data Found : Type 0 where
  outcome : Outcome → Found
  opened : Bool → Found
  broken : Found

-- whether the label opens the purpose, in a document that is accepted
unfoldable pub opened_in : Result Accepted → Word → Word → Found
opened_in (refused r) l p = broken
opened_in (accepted a) l p = opened (label_open a.doc.policy (or_zero (purpose_of a.doc.policy p)) (label_of a.doc.policy l))

-- what the definitions say
unfoldable pub answer_of : Question → Found
answer_of (asking text c q room) = outcome (ask text (ascii q) c room)
answer_of (opening text l p) = opened_in (check text) (plain_word (ascii l)) (plain_word (ascii p))

-- an answer of these lines and counts, authorised by grant 0
unfoldable pub answered : String → ℕ → ℕ → ℕ → Found
answered lines p w u = outcome (accepted (record { answer = record { bytes = ascii lines; passed = p; withheld = w; unmatched = u }; grant = 0 }))

-- a refusal that hands back a part of the query
unfoldable pub refused_at : ℕ → ℕ → ℕ → Found
refused_at n start len = outcome (refused (record { number = n; source = query; start = start; len = len }))

-- a question and what 01 expects
pub record Case : Type 0 where
  pub question : Question
  pub expected : Found

infix 80 ◌⇒◌
-- the question has this answer
unfoldable pub ◌⇒◌ : Question → Found → Case
q ⇒ f = record { question = q; expected = f }

-- the cases marked * in 01
unfoldable pub cases : List Case
cases =
    -- the sample session
    asking session (clock_at 2028 366 10) "(select ana desk post sub (who) (gt due 50))" 60021 ⇒ answered "(row Cy)\n(end 1 1 1)\n" 1 1 1
    -- Bo's 75 made 10: the same
    ∷ asking session10 (clock_at 2028 366 10) "(select ana desk post sub (who) (gt due 50))" 60021 ⇒ answered "(row Cy)\n(end 1 1 1)\n" 1 1 1
    -- without the condition
    ∷ asking session (clock_at 2028 366 10) "(select ana desk post sub (who))" 60021 ⇒ answered "(row Ida)\n(row Bo)\n(row Cy)\n(end 3 0 0)\n" 3 0 0
    -- for `bill`
    ∷ asking session (clock_at 2028 366 10) "(select ana desk bill sub (who) (gt due 50))" 60021 ⇒ refused_at 14 17 4
    -- hour 17, and hour 16
    ∷ asking session (clock_at 2028 366 17) "(select ana desk post sub (who) (gt due 50))" 60021 ⇒ refused_at 14 17 4
    ∷ asking session (clock_at 2028 366 16) "(select ana desk post sub (who) (gt due 50))" 60021 ⇒ answered "(row Cy)\n(end 1 1 1)\n" 1 1 1
    -- day 366 of a common year
    ∷ asking session (clock_at 2027 366 10) "(select ana desk post sub (who) (gt due 50))" 60021 ⇒ refused_at 10 0 0
    -- `noads` under `bill` and under `all`
    ∷ opening session "noads" "bill" ⇒ opened true
    ∷ opening session "noads" "all" ⇒ opened false
    -- an empty allowed set
    ∷ opening labelled "shut" "all" ⇒ opened false
    ∷ opening labelled "shut" "bill" ⇒ opened false
    ∷ opening labelled "shut" "ads" ⇒ opened false
    ∷ opening labelled "shut" "post" ⇒ opened false
    -- a denied root
    ∷ opening labelled "rootless" "all" ⇒ opened false
    ∷ opening labelled "rootless" "bill" ⇒ opened false
    ∷ opening labelled "rootless" "ads" ⇒ opened false
    ∷ opening labelled "rootless" "post" ⇒ opened false
    ∷ []

-- in every case the definitions say what 01 expects
pub samples : map (λ c. answer_of c.question) cases ≡ map (λ c. c.expected) cases
unfolding computing policy ida cy session session10 labelled clock_at opened_in answer_of answered refused_at ◌⇒◌ cases
samples = refl

-- ---- tables without labels (02, Q-2)

-- a table without labels, with a row; the same declared public; a labelled one that is declared public
unfoldable pub undeclared : List ℕ
undeclared = policy ++ ascii "(table log none (day num))\n(row log 7)\n"

unfoldable pub declared : List ℕ
declared = undeclared ++ ascii "(public log)\n"

unfoldable pub declared_shut : List ℕ
declared_shut = policy ++ ascii "(table log table noads (day num))\n(public log)\n(row log 7)\n"

-- a refusal that hands back a part of the document
unfoldable pub broken_at : ℕ → ℕ → ℕ → Found
broken_at n start len = outcome (refused (record { number = n; source = document; start = start; len = len }))

unfoldable pub public_cases : List Case
public_cases =
    -- closed until declared public
    asking undeclared (clock_at 2028 366 10) "(select ana desk post log (day))" 60021 ⇒ refused_at 17 22 3
    ∷ asking undeclared (clock_at 2028 366 10) "(count ana desk post log)" 60021 ⇒ refused_at 17 21 3
    ∷ asking declared (clock_at 2028 366 10) "(select ana desk post log (day))" 60021 ⇒ answered "(row 7)\n(end 1 0 0)\n" 1 0 0
    -- on a labelled table the line does nothing
    ∷ asking declared_shut (clock_at 2028 366 10) "(select ana desk post log (day))" 60021 ⇒ refused_at 17 22 3
    -- an unknown table is 5 and a second line 4, both at the table's name
    ∷ asking (ascii "(public log)\n") (clock_at 2028 366 10) "(count ana desk post log)" 60021 ⇒ broken_at 5 8 3
    ∷ asking (declared ++ ascii "(public log)\n") (clock_at 2028 366 10) "(count ana desk post log)" 60021 ⇒ broken_at 4 (length declared + 8) 3
    ∷ asking (declared_shut ++ ascii "(public log)\n") (clock_at 2028 366 10) "(count ana desk post log)" 60021 ⇒ broken_at 4 (length declared_shut + 8) 3
    ∷ []

-- in every case the definitions say what 02 expects
pub public_samples : map (λ c. answer_of c.question) public_cases ≡ map (λ c. c.expected) public_cases
unfolding computing policy undeclared declared declared_shut clock_at answer_of answered refused_at broken_at ◌⇒◌ public_cases
public_samples = refl

-- ---- blanks instead of missing rows (02, Q-10)

-- a cell that is both closed and below zero in another, and a row with all cells closed; a table with a closed column; one with row labels
unfoldable pub gapped : List ℕ
gapped = session ++ ascii "(row sub (Di noads) (-5 noads))\n(table old column (who name free) (due num noads))\n(row old Ed 1)\n(table new row (due num))\n(row new noads 2)\n(row new free -3)\n"

unfoldable pub blank_cases : List Case
blank_cases =
    -- a closed cell that is only selected is a gap, each time; a row is not withheld for it, though all its cells be closed
    asking gapped (clock_at 2028 366 10) "(blank ana desk post sub (due who due))" 60021 ⇒ answered "(row 40 Ida 40)\n(row - Bo -)\n(row 60 Cy 60)\n(row - - -)\n(end 4 0 0)\n" 4 0 0
    -- one in the condition withholds it, selected too or not
    ∷ asking gapped (clock_at 2028 366 10) "(blank ana desk post sub (who due) (gt due 50))" 60021 ⇒ answered "(row Cy 60)\n(end 1 2 1)\n" 1 2 1
    ∷ asking gapped (clock_at 2028 366 10) "(blank ana desk post sub (due) (ne who Cy))" 60021 ⇒ answered "(row 40)\n(row -)\n(end 2 1 1)\n" 2 1 1
    -- a closed row label withholds; a closed column or table is 17, though it be only selected
    ∷ asking gapped (clock_at 2028 366 10) "(blank ana desk post new (due))" 60021 ⇒ answered "(row -3)\n(end 1 1 0)\n" 1 1 0
    ∷ asking gapped (clock_at 2028 366 10) "(blank ana desk post old (who due))" 60021 ⇒ refused_at 17 30 3
    ∷ asking undeclared (clock_at 2028 366 10) "(blank ana desk post log (day))" 60021 ⇒ refused_at 17 21 3
    ∷ asking declared (clock_at 2028 366 10) "(Blank ana desk post log (day))" 60021 ⇒ answered "(row 7)\n(end 1 0 0)\n" 1 0 0
    -- a blank has a column bracket; its answer fits, or is 18
    ∷ asking session (clock_at 2028 366 10) "(blank ana desk post sub)" 60021 ⇒ refused_at 11 0 25
    ∷ asking session (clock_at 2028 366 10) "(blank ana desk post sub (due))" 38 ⇒ answered "(row 40)\n(row -)\n(row 60)\n(end 3 0 0)\n" 3 0 0
    ∷ asking session (clock_at 2028 366 10) "(blank ana desk post sub (due))" 37 ⇒ refused_at 18 0 0
    ∷ []

-- in every case the definitions say what 02 expects
pub blank_samples : map (λ c. answer_of c.question) blank_cases ≡ map (λ c. c.expected) blank_cases
unfolding computing policy ida cy session gapped undeclared declared clock_at answer_of answered refused_at ◌⇒◌ blank_cases
blank_samples = refl

-- ---- the asking program

-- the sample's input, with a second query that lacks its line feed
unfoldable pub input : List ℕ
input =
    ascii "(clock 2028 366 10)\n"
    ++ ascii "(select ana desk post sub (who) (gt due 50))\n"
    ++ ascii "(count ana desk bill sub)"

-- what the program prints for it; a clock line of another form gives every query 10, and a refused policy one line
pub sample_session : Session.session session input ∷ Session.session session (ascii "clock\n(count ana desk post sub)\n") ∷ Session.session (ascii "(purpose all)\n(purpose all all)\n") input ∷ []
    ≡ ascii "(row Cy)\n(end 1 1 1)\n(refused 14 query 16 4)\n" ∷ ascii "(refused 10 query 0 0)\n" ∷ ascii "(refused 4 document 23 3)\n" ∷ []
unfolding computing policy ida cy session input
sample_session = refl
