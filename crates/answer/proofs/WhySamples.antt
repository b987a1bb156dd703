-- The explaining tool on the sample session and on tables of every scheme (02, Q-7, Q-8, Q-11), by computation.
use Prim.Native.Nat.{ℕ}
use mathlib.Core.List.{List, [], ◌++◌, ◌∷◌, map}
use mathlib.Core.Path.{◌≡◌, refl}
use Rattle.answer.specs.Computing.{computing}
use Rattle.answer.specs.Why.{explaining}
use Rattle.document.proofs.NestSamples.{labels, nest, people}
use Rattle.text.specs.Bytes.{ascii}

-- a table of each scheme; `shut` denies two purposes, of which post is written with a capital
unfoldable pub tables : List ℕ
tables = labels ++ ascii "(label shut (allow all) (deny bill Post))\n(table u row (a num))\n(table v none (a num))\n(table w none (a num))\n(public w)\n(table x column (a num most) (b num shut))\n(row u most 1)\n(row u shut 2)\n(row u again 3)\n(row v 1)\n(row w 1)\n(row x 1 2)\n"

-- the row counts those of its table alone; the first denied purpose that is ancestor or descendant is printed as its label line wrote it
pub why_samples :
    explaining tables (ascii "(why bill u 0 a)\n(why post u 0 a)\n(why post u 1 a)\n(why all u 1 a)\n(why ads u 2 a)\n(why post u 2 a)\n(WHY post V 0 A)\n(why post w 0 a)\n(why post x 0 b)\n(why bill x 0 a)\n")
    ≡ ascii "(open)\n(closed deny ads)\n(closed deny Post)\n(closed deny bill)\n(closed allow)\n(open)\n(closed none)\n(open)\n(closed deny Post)\n(open)\n"
unfolding computing labels tables
why_samples = refl

-- 11, 23 at the leftmost of purpose, table and column, 24, and 26 on a nest table, behind 24
pub why_refused :
    explaining (tables ++ ascii "(table t nest (who name) (due num))\n" ++ people)
    (ascii "(why post u a a)\n(why no u 9 b)\n(why post u 9 b)\n(why post u 3 a)\n(why post u -1 a)\n(why post v 1 a)\n(why post t 0 who)\n(why post t 3 who)\n(why post t 0 a)\n(select ana desk post u (a))\n\n(why post u 0 a")
    ≡ ascii "(refused 11 query 0 16)\n(refused 23 query 5 2)\n(refused 23 query 14 1)\n(refused 24 query 12 1)\n(refused 24 query 12 2)\n(refused 24 query 12 1)\n(refused 26 query 10 1)\n(refused 24 query 12 1)\n(refused 23 query 14 1)\n(refused 11 query 0 28)\n(refused 11 query 0 0)\n(refused 11 query 0 15)\n"
unfolding computing labels tables people
why_refused = refl
