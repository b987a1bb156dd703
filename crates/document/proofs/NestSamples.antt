-- Labels that come down (02, Q-11) in documents: which cells are open to whom, and 25 with what comes before it, by computation.
use Prim.Native.Nat.{◌+◌, ℕ}
use Prim.Native.String.{String}
use lib.ListN.{length}
use mathlib.Core.Bool.{Bool, false, true}
use mathlib.Core.List.{List, [], ◌++◌, ◌∷◌, map}
use mathlib.Core.Option.{Option, none, some}
use mathlib.Core.Path.{◌≡◌, refl}
use Rattle.document.specs.Check.{Accepted, check}
use Rattle.document.specs.Computing.{computing}
use Rattle.document.specs.Lookup.{labelling_at}
use Rattle.document.specs.Open.{cell_open, open_to}
use Rattle.text.specs.Bytes.{ascii}
use Rattle.text.specs.Refusal.{Refusal, Result, accepted, document, refused}

-- the purposes of the sample session, all of them granted to ana, and labels: silent says nothing, most denies ads and allows the rest,
-- again allows post, notPost denies it, strict allows ads and denies bill
unfoldable pub labels : List ℕ
labels = ascii "(purpose all)\n(purpose bill all)\n(purpose ads all)\n(purpose post ads)\n(role desk)\n(user ana desk)\n(cond-role any desk (gt day 0))\n(grant all any)\n(label silent (allow) (deny))\n(label most (allow all) (deny ads))\n(label again (allow post) (deny))\n(label notPost (allow) (deny post))\n(label strict (allow ads) (deny bill))\n"

unfoldable pub nest : List ℕ
nest = labels ++ ascii "(table t nest (who name) (due num))\n"

unfoldable pub people : List ℕ
people = ascii "(row t silent (Ida silent) (5 silent))\n(row t again (Bo silent) (7 silent))\n(row t again (Cy notPost) (9 silent))\n"

-- a nest table with a column of dates (02, Q-14)
unfoldable pub visits : List ℕ
visits = labels ++ ascii "(table v nest (id num) (on date))\n"

unfoldable pub weakly : List ℕ
weakly = nest ++ ascii "(weak t most)\n" ++ people

unfoldable pub strongly : List ℕ
strongly = nest ++ ascii "(strong t strict)\n(weak t most)\n" ++ people

-- ---- open cells

-- of each row of the table of number 0, whether its two cells are open to the purpose
unfoldable pub open_cells : ℕ → Result Accepted → List (List Bool)
open_cells p (refused r) = []
open_cells p (accepted a) = map (λ r. map (cell_open (open_to a.doc.policy p) (labelling_at a.doc.policy 0) r.labels) (0 ∷ 1 ∷ [])) a.doc.rows

-- for all, bill, ads and post: the table's weak label denies ads, and with it post and all; the second row allows post again, and the
-- third's first cell denies it again; with a strong label, that alone counts where it says anything
pub cell_samples :
    map (λ p. open_cells p (check weakly)) (0 ∷ 1 ∷ 2 ∷ 3 ∷ []) ++ map (λ p. open_cells p (check strongly)) (0 ∷ 1 ∷ 2 ∷ 3 ∷ []) ++ map (λ p. open_cells p (check (nest ++ people))) (1 ∷ 3 ∷ [])
    ≡ ((false ∷ false ∷ []) ∷ (false ∷ false ∷ []) ∷ (false ∷ false ∷ []) ∷ [])
    ∷ ((true ∷ true ∷ []) ∷ (true ∷ true ∷ []) ∷ (true ∷ true ∷ []) ∷ [])
    ∷ ((false ∷ false ∷ []) ∷ (false ∷ false ∷ []) ∷ (false ∷ false ∷ []) ∷ [])
    ∷ ((false ∷ false ∷ []) ∷ (true ∷ true ∷ []) ∷ (false ∷ true ∷ []) ∷ [])
    ∷ ((false ∷ false ∷ []) ∷ (false ∷ false ∷ []) ∷ (false ∷ false ∷ []) ∷ [])
    ∷ ((false ∷ false ∷ []) ∷ (false ∷ false ∷ []) ∷ (false ∷ false ∷ []) ∷ [])
    ∷ ((true ∷ true ∷ []) ∷ (true ∷ true ∷ []) ∷ (true ∷ true ∷ []) ∷ [])
    ∷ ((true ∷ true ∷ []) ∷ (true ∷ true ∷ []) ∷ (true ∷ true ∷ []) ∷ [])
    ∷ ((false ∷ false ∷ []) ∷ (false ∷ false ∷ []) ∷ (false ∷ false ∷ []) ∷ [])
    ∷ ((false ∷ false ∷ []) ∷ (true ∷ true ∷ []) ∷ (false ∷ true ∷ []) ∷ [])
    ∷ []
unfolding computing labels nest people weakly strongly open_cells
cell_samples = refl

-- ---- refused documents

-- the refusal of a document
unfoldable pub refusal : Result Accepted → Option Refusal
refusal (refused r) = some r
refusal (accepted a) = none

-- the refusal with this number of the line that stands behind these
unfoldable pub refused_line : ℕ → List ℕ → String → Option Refusal
refused_line n before line = some (record { number = n; source = document; start = length before; len = length (ascii line) })

-- the same, of the word that stands at a place of it
unfoldable pub refused_word : ℕ → List ℕ → ℕ → ℕ → Option Refusal
refused_word n before at len = some (record { number = n; source = document; start = length before + at; len = len })

-- the document of these lines and one behind them
unfoldable pub behind : List ℕ → String → Option Refusal
behind before line = refusal (check (before ++ ascii line ++ ascii "\n"))

unfoldable pub other : List ℕ
other = labels ++ ascii "(table t row (who name) (due num))\n"

pub note_samples :
    -- given twice, though with another label
    behind (nest ++ ascii "(weak t most)\n") "(weak t silent)"
    -- after a row
    ∷ behind (nest ++ people) "(weak t most)"
    ∷ behind (nest ++ people) "(strong t most)"
    -- after a row of another table: accepted
    ∷ behind (nest ++ ascii "(table u row (a num))\n(row u silent 1)\n") "(weak t most)"
    -- for a table of another scheme
    ∷ behind other "(weak t most)"
    ∷ behind other "(strong t most)"
    -- table or label unknown, leftmost first, before 25
    ∷ behind other "(weak u no)"
    ∷ behind other "(weak t no)"
    -- weak and strong are two lines; public may be declared once
    ∷ behind (nest ++ ascii "(weak t most)\n") "(strong t most)"
    ∷ behind (nest ++ ascii "(public t)\n") "(public t)"
    -- rows: the labels are looked up before the shape is judged; both labels are needed
    ∷ behind nest "(row t no (Ida silent) (5 silent))"
    ∷ behind nest "(row t silent (Ida silent) (5 no))"
    ∷ behind nest "(row t (Ida silent) (5 silent))"
    ∷ behind nest "(row t silent Ida 5)"
    ∷ behind nest "(row t silent (Ida silent))"
    ∷ behind nest "(row t silent (Ida silent) (x silent))"
    -- a range and a date in its cells, in order and not, there and not
    ∷ behind nest "(row t silent (Ida silent) ((3 9) silent))"
    ∷ behind nest "(row t silent (Ida silent) ((9 3) silent))"
    ∷ behind visits "(row v silent (1 silent) ((2028 2 29) silent))"
    ∷ behind visits "(row v silent (1 silent) ((2027 2 29) silent))"
    ∷ []
    ≡ refused_line 25 (nest ++ ascii "(weak t most)\n") "(weak t silent)"
    ∷ refused_line 25 (nest ++ people) "(weak t most)"
    ∷ refused_line 25 (nest ++ people) "(strong t most)"
    ∷ none
    ∷ refused_line 25 other "(weak t most)"
    ∷ refused_line 25 other "(strong t most)"
    ∷ refused_word 5 other 6 1
    ∷ refused_word 5 other 8 2
    ∷ none
    ∷ refused_word 4 (nest ++ ascii "(public t)\n") 8 1
    ∷ refused_word 5 nest 7 2
    ∷ refused_word 5 nest 30 2
    ∷ refused_line 7 nest "(row t (Ida silent) (5 silent))"
    ∷ refused_line 7 nest "(row t silent Ida 5)"
    ∷ refused_line 7 nest "(row t silent (Ida silent))"
    ∷ refused_word 8 nest 28 1
    ∷ none
    ∷ refused_word 28 nest 28 5
    ∷ none
    ∷ refused_word 31 visits 26 11
    ∷ []
unfolding computing labels nest people visits other refusal refused_line refused_word behind
note_samples = refl
