-- The reserve of small documents, to the byte (02, Q-9), and one that an answer reaches. By computation.
use Prim.Native.Nat.{suc, zero, ℕ}
use lib.Dec.{eqb}
use lib.ListN.{length}
use mathlib.Core.Bool.{Bool, ◌&&◌, false, true}
use mathlib.Core.List.{List, [], ◌++◌, ◌∷◌}
use mathlib.Core.Path.{◌≡◌, refl}
use Rattle.answer.proofs.Samples.{clock_at}
use Rattle.answer.specs.Ask.{Outcome, ask}
use Rattle.answer.specs.Computing.{computing}
use Rattle.answer.specs.Reserve.{Taken, checked, whole_length}
use Rattle.document.specs.Policy.{Row}
use Rattle.lists.specs.Lists.{all_of}
use Rattle.text.specs.Bytes.{ascii}
use Rattle.text.specs.Refusal.{Result, accepted, refused}

-- what is handed back is this number of lines and this reserve
unfoldable pub hands_back : Result Taken → ℕ → ℕ → Bool
hands_back (refused r) lines reserve = false
hands_back (accepted t) lines reserve = eqb t.lines lines && eqb t.reserve reserve

-- a document, the number of its lines and its reserve
pub record Case : Type 0 where
  pub doc : List ℕ
  pub lines : ℕ
  pub reserve : ℕ

infix 80 ◌⇒◌
unfoldable pub ◌⇒◌ : List ℕ → ℕ × ℕ → Case
d ⇒ x = record { doc = d; lines = x.0; reserve = x.1 }

-- so many rows `(row t 7)`
unfoldable pub sevens : ℕ → List ℕ
sevens zero = []
sevens (suc n) = ascii "(row t 7)\n" ++ sevens n

-- so many names of 24 bytes, each behind a space
unfoldable pub wide : ℕ → List ℕ
wide zero = []
wide (suc n) = ascii " abcdefghijklmnopqrstuvwx" ++ wide n

-- as many rows of one value of one byte
unfoldable pub ones : ℕ → List Row
ones zero = []
ones (suc n) = record { table = 0; values = (55 ∷ []) ∷ []; labels = [] } ∷ ones n

unfoldable pub cases : List Case
cases =
    -- no text, and no table
    [] ⇒ (0, 0)
    ∷ ascii "(purpose all)\n" ⇒ (1, 0)
    -- a table without rows: its end line
    ∷ ascii "(table t none (a num))\n" ⇒ (1, 12)
    -- one row, nine, ten: the end line's digits
    ∷ (ascii "(table t none (a num))\n" ++ sevens 1) ⇒ (2, 20)
    ∷ (ascii "(table t none (a num))\n" ++ sevens 9) ⇒ (10, 84)
    ∷ (ascii "(table t none (a num))\n" ++ sevens 10) ⇒ (11, 93)
    -- two tables, the shorter with more rows, standing first and standing last
    ∷ (ascii "(table u none (a name))\n(table t none (a num))\n(row u abcdefghijklmnopqrstuvwx)\n" ++ sevens 2) ⇒ (5, 43)
    ∷ (ascii "(table t none (a num))\n(table u none (a name))\n(row u abcdefghijklmnopqrstuvwx)\n" ++ sevens 2) ⇒ (5, 43)
    -- sixteen columns of names of 24 bytes
    ∷ (ascii "(table t none (a name) (b name) (c name) (d name) (e name) (f name) (g name) (h name) (i name) (j name) (k name) (l name) (m name) (n name) (o name) (p name))\n(row t" ++ wide 16 ++ ascii ")\n") ⇒ (2, 418)
    -- labels do not count, of a row or of a cell
    ∷ ascii "(label shut (allow) (deny))\n(table t row (a num))\n(row t shut 7)\n" ⇒ (3, 20)
    ∷ ascii "(label shut (allow) (deny))\n(table t cell (a num) (b name))\n(row t (7 shut) (x shut))\n" ⇒ (3, 22)
    -- nor a nest table's (02, Q-11): a range and a date count as written
    ∷ ascii "(label shut (allow) (deny))\n(table t nest (a num) (b date))\n(weak t shut)\n(row t shut ((7 9) shut) ((2028 2 29) shut))\n" ⇒ (4, 36)
    ∷ []

pub reserves : all_of (λ c. hands_back (checked c.doc) c.lines c.reserve) cases ≡ true
unfolding computing hands_back ◌⇒◌ sevens wide cases
reserves = refl

-- 99 rows and 100: a digit more in the end line
pub hundred : (eqb (whole_length (ones 99)) 805 && eqb (whole_length (ones 100)) 814) ≡ true
unfolding computing ones
hundred = refl

-- a table that the purpose `all` opens whole
unfoldable pub opened : List ℕ
opened =
    ascii "(purpose all)\n(role desk)\n(user ana desk)\n(cond-role any desk (ge hour 0))\n(grant all any)\n(label free (allow all) (deny))\n"
    ++ ascii "(table t row (a name) (b num))\n(row t free Ida 40)\n(row t free Bo 7)\n"

-- the answer has this length
unfoldable pub is_long : Outcome → ℕ → Bool
is_long (refused r) n = false
is_long (accepted a) n = eqb (length a.answer.bytes) n

-- all its columns, each once, into a buffer of as many bytes as the reserve says: the answer fills it
pub reached : (hands_back (checked opened) 9 36 && is_long (ask opened (ascii "(select ana desk all t (b a))") (clock_at 2028 1 0) 36) 36) ≡ true
unfolding computing hands_back opened is_long clock_at
reached = refl
