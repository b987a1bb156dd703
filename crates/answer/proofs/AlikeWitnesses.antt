-- Pairs of documents that pin which values may differ (01, "The no-difference claim"; 02, Q-2, Q-8, Q-10, Q-11, Q-12, Q-14), by computation, both ways: for each
-- reason that lets a value differ a pair that is alike for that reason alone, and pairs that are not alike. The claim itself
-- does not pin the reasons: it gets easier where fewer values are free.
use Prim.Native.Nat.{ℕ}
use Prim.Native.String.{String}
use lib.ListN.{get_elem?}
use mathlib.Core.Bool.{Bool, beq, ◌&&◌, false, not, true}
use mathlib.Core.List.{List, [], ◌++◌, ◌∷◌}
use mathlib.Core.Option.{some}
use mathlib.Core.Path.{◌∙◌, ◌≡◌, refl, sym}
use Rattle.answer.proofs.AlikeDecided.{alike_if_tested, tested_if_alike}
use Rattle.answer.specs.Alike.{Alike}
use Rattle.answer.specs.AlikeTest.{alike?, same_bytes}
use Rattle.answer.specs.Computing.{computing}
use Rattle.lists.proofs.ListLaws.{all_here}
use Rattle.lists.proofs.Tests.{and_right, true_not_false}
use Rattle.lists.specs.Lists.{all_of}
use Rattle.text.specs.Bytes.{ascii}

-- two documents that differ, and whether they are alike for the query text
pub record Witness : Type 0 where
  pub text : List ℕ
  pub first : List ℕ
  pub second : List ℕ
  pub alike : Bool

-- ---- documents: `ana` may ask for `ads`; the label `open` is open to it, `shut` is not; the table t has one of the schemes

unfoldable pub asker : List ℕ
asker = ascii "(purpose ads)\n(role desk)\n(user ana desk)\n(cond-role any desk (gt day 0))\n(grant ads any)\n"

unfoldable pub undeclared : List ℕ
undeclared = asker ++ ascii "(table t none (a num) (b num))\n"

unfoldable pub plain : List ℕ
plain = undeclared ++ ascii "(public t)\n"

unfoldable pub named : List ℕ
named = asker ++ ascii "(table t none (a name) (b name))\n(public t)\n"

unfoldable pub labelled : List ℕ
labelled = asker ++ ascii "(label open (allow ads) (deny))\n(label shut (allow) (deny))\n"

unfoldable pub shut_table : List ℕ
shut_table = labelled ++ ascii "(table t table shut (a num))\n"

unfoldable pub open_table : List ℕ
open_table = labelled ++ ascii "(table t table open (a num))\n"

unfoldable pub columns : List ℕ
columns = labelled ++ ascii "(table t column (a num open) (b num shut))\n"

unfoldable pub rows : List ℕ
rows = labelled ++ ascii "(table t row (a num))\n"

unfoldable pub cells : List ℕ
cells = labelled ++ ascii "(table t cell (a num) (b num))\n"

unfoldable pub named_cells : List ℕ
named_cells = labelled ++ ascii "(table t cell (a name) (b name))\n"

-- a nest table (02, Q-11); `no` denies ads, and `shut` says nothing
unfoldable pub nest : List ℕ
nest = labelled ++ ascii "(label no (allow) (deny ads))\n(table t nest (a num) (b num))\n"

-- the same with a column of dates (02, Q-14)
unfoldable pub nest_dates : List ℕ
nest_dates = labelled ++ ascii "(label no (allow) (deny ads))\n(table t nest (a num) (b date))\n"

-- ---- the witnesses: the policy, the query text, and the lines behind the policy in the one document and in the other

unfoldable pub alike_for : List ℕ → String → String → String → Witness
alike_for policy q a b = record { text = ascii q; first = policy ++ ascii a; second = policy ++ ascii b; alike = true }

unfoldable pub unlike_for : List ℕ → String → String → String → Witness
unlike_for policy q a b = record { text = ascii q; first = policy ++ ascii a; second = policy ++ ascii b; alike = false }

-- values that may differ
unfoldable pub free_values : List Witness
free_values =
    -- closed: by its table's label, by its column's; the query names it, and no row is withheld
    alike_for shut_table "(select ana desk ads t (a))" "(row t 1)\n" "(row t 2)\n"
    ∷ alike_for columns "(select ana desk ads t (a b))" "(row t 1 2)\n" "(row t 1 3)\n"
    -- closed: its table has no labels and is not declared public (02, Q-2), though another is; its table has, and is declared public
    ∷ alike_for undeclared "(select ana desk ads t (a b))" "(row t 1 2)\n" "(row t 3 2)\n"
    ∷ alike_for undeclared "(count ana desk ads t (eq b 2))" "(row t 1 2)\n" "(row t 1 3)\n"
    ∷ alike_for undeclared "(select ana desk ads t (a))" "(table u none (a num))\n(public u)\n(row t 1 2)\n" "(table u none (a num))\n(public u)\n(row t 3 2)\n"
    ∷ alike_for shut_table "(select ana desk ads t (a))" "(public t)\n(row t 1)\n" "(public t)\n(row t 2)\n"
    -- its column is not named: by a select, by a condition, by a count
    ∷ alike_for plain "(select ana desk ads t (a))" "(row t 1 2)\n" "(row t 1 3)\n"
    ∷ alike_for plain "(count ana desk ads t (eq b 2))" "(row t 1 2)\n" "(row t 3 2)\n"
    ∷ alike_for plain "(count ana desk ads t)" "(row t 1 2)\n" "(row t 3 4)\n"
    -- another table's, though that table has a column of the name
    ∷ alike_for plain "(select ana desk ads t (a))" "(table u none (a num))\n(row u 1)\n" "(table u none (a num))\n(row u 2)\n"
    -- its row is withheld for another cell, selected or in the condition
    ∷ alike_for cells "(select ana desk ads t (a b))" "(row t (1 open) (2 shut))\n" "(row t (3 open) (2 shut))\n"
    ∷ alike_for cells "(select ana desk ads t (a) (eq b 2))" "(row t (1 open) (2 shut))\n" "(row t (3 open) (2 shut))\n"
    -- its row's label is closed, so that the cell is and the row is withheld
    ∷ alike_for rows "(select ana desk ads t (a))" "(row t shut 1)\n" "(row t shut 2)\n"
    -- an unknown purpose has every cell closed to it, also where the table is public
    ∷ alike_for plain "(select ana desk post t (a))" "(row t 1 2)\n" "(row t 3 2)\n"
    ∷ alike_for rows "(select ana desk post t (a))" "(row t open 1)\n" "(row t open 2)\n"
    -- an unknown table is none of the document's, so that none is named
    ∷ alike_for plain "(select ana desk ads u (a))" "(row t 1 2)\n" "(row t 3 2)\n"
    -- a text that is 11 names nothing
    ∷ alike_for plain "(select ana desk ads t a)" "(row t 1 2)\n" "(row t 3 2)\n"
    -- a refused query, with a column that is known and one that is not: a third is not named, and a row is withheld all the same
    ∷ alike_for plain "(select ana desk ads t (a c))" "(row t 1 2)\n" "(row t 1 3)\n"
    ∷ alike_for cells "(select ana desk ads t (a b c))" "(row t (1 open) (2 shut))\n" "(row t (3 open) (2 shut))\n"
    -- a value of another length
    ∷ alike_for plain "(select ana desk ads t (a))" "(row t 1 2)\n" "(row t 1 -345)\n"
    -- several reasons at once, and several rows: closed and not named; closed, withheld and not named
    ∷ alike_for cells "(select ana desk ads t (a))" "(row t (1 open) (2 shut))\n(row t (3 shut) (4 shut))\n" "(row t (1 open) (20 shut))\n(row t (30 shut) (40 shut))\n"
    -- a value that differs in the case of letters alone (02, Q-8): its column is not named, it is closed, its row is withheld
    ∷ alike_for named "(select ana desk ads t (a))" "(row t x y)\n" "(row t x Y)\n"
    ∷ alike_for named_cells "(count ana desk ads t (eq b y))" "(row t (x open) (y shut))\n" "(row t (x open) (Y shut))\n"
    ∷ alike_for named_cells "(select ana desk ads t (a b))" "(row t (x open) (y shut))\n" "(row t (X open) (y shut))\n"
    -- row lines whose keyword is written in another case
    ∷ alike_for named "(select ana desk ads t (a))" "(ROW T x y)\n" "(ROW T x z)\n"
    -- a blank's (02, Q-10): closed and only selected, in a row that is not withheld; in a row that the condition withholds; by a row's
    -- label
    ∷ alike_for cells "(blank ana desk ads t (a b))" "(row t (1 open) (2 shut))\n" "(row t (1 open) (-3 shut))\n"
    ∷ alike_for cells "(blank ana desk ads t (a) (eq b 2))" "(row t (1 open) (2 shut))\n" "(row t (3 open) (4 shut))\n"
    ∷ alike_for rows "(blank ana desk ads t (a))" "(row t shut 1)\n" "(row t shut 2)\n"
    -- either end of a range (02, Q-12): closed, in a withheld row, not named; in a query that takes ranges and in one that is 27
    ∷ alike_for shut_table "(select ana desk ads t (a))" "(row t (1 2))\n" "(row t (-3 4))\n"
    ∷ alike_for cells "(sure ana desk ads t (a b) (gt b 1))" "(row t ((1 5) open) ((2 3) shut))\n" "(row t ((1 9) open) ((0 3) shut))\n"
    ∷ alike_for plain "(possible ana desk ads t (a))" "(row t 1 (5 5))\n" "(row t 1 (1 9))\n"
    -- in a nest table (02, Q-11): closed, since nothing allows it, in a blank that gives its row; denied by its own label, by its row's, by
    -- the table's weak one, though the table, the row, or the label above allows it; denied by the strong label, though the rest allow it
    ∷ alike_for nest "(blank ana desk ads t (a b))" "(row t shut (1 shut) (2 open))\n" "(row t shut (3 shut) (2 open))\n"
    ∷ alike_for nest "(blank ana desk ads t (a b))" "(row t open (1 no) (2 open))\n" "(row t open (3 no) (2 open))\n"
    ∷ alike_for nest "(blank ana desk ads t (a))" "(weak t open)\n(row t no (1 shut) (2 open))\n" "(weak t open)\n(row t no (3 shut) (2 open))\n"
    ∷ alike_for nest "(blank ana desk ads t (a))" "(weak t no)\n(row t shut (1 shut) (2 open))\n" "(weak t no)\n(row t shut (3 shut) (2 open))\n"
    ∷ alike_for nest "(select ana desk ads t (a))" "(strong t no)\n(weak t open)\n(row t open (1 open) (2 open))\n" "(strong t no)\n(weak t open)\n(row t open (3 open) (2 open))\n"
    -- its row is withheld for another cell; its column is not named
    ∷ alike_for nest "(select ana desk ads t (a b))" "(row t shut (1 open) (2 shut))\n" "(row t shut (3 open) (2 shut))\n"
    ∷ alike_for nest "(select ana desk ads t (a))" "(row t open (1 open) (2 open))\n" "(row t open (1 open) (3 open))\n"
    -- either end of a closed range, and a closed date
    ∷ alike_for nest "(sure ana desk ads t (a b))" "(row t open (1 open) ((2 3) no))\n" "(row t open (1 open) ((0 9) no))\n"
    ∷ alike_for nest_dates "(blank ana desk ads t (a b))" "(row t open (1 open) ((2028 2 29) no))\n" "(row t open (1 open) ((1 12 31) no))\n"
    ∷ []

-- what may not differ
unfoldable pub fixed_values : List Witness
fixed_values =
    -- an open value in a selected column, by scheme
    unlike_for plain "(select ana desk ads t (a))" "(row t 1 2)\n" "(row t 3 2)\n"
    ∷ unlike_for open_table "(select ana desk ads t (a))" "(row t 1)\n" "(row t 2)\n"
    ∷ unlike_for columns "(select ana desk ads t (a))" "(row t 1 2)\n" "(row t 3 2)\n"
    ∷ unlike_for rows "(select ana desk ads t (a))" "(row t open 1)\n" "(row t open 2)\n"
    ∷ unlike_for cells "(select ana desk ads t (a))" "(row t (1 open) (2 shut))\n" "(row t (3 open) (2 shut))\n"
    -- the same where the table is declared public behind its rows (02, Q-2)
    ∷ unlike_for undeclared "(select ana desk ads t (a))" "(row t 1 2)\n(public t)\n" "(row t 3 2)\n(public t)\n"
    -- in a column of the condition, though its branch is not reached; of a count's condition
    ∷ unlike_for plain "(select ana desk ads t (a) (or (eq a 1) (eq b 2)))" "(row t 1 2)\n" "(row t 1 3)\n"
    ∷ unlike_for plain "(count ana desk ads t (eq b 2))" "(row t 1 2)\n" "(row t 1 3)\n"
    -- in a refused query: 12, the user, the role; 13; 14; 15; 16; 17
    ∷ unlike_for plain "(select bob desk ads t (a))" "(row t 1 2)\n" "(row t 3 2)\n"
    ∷ unlike_for plain "(select ana boss ads t (a))" "(row t 1 2)\n" "(row t 3 2)\n"
    ∷ unlike_for plain "(select ana boss ads t (a))" "(role boss)\n(row t 1 2)\n" "(role boss)\n(row t 3 2)\n"
    ∷ unlike_for plain "(select ana boss ads t (a))" "(role boss)\n(user ana boss)\n(row t 1 2)\n" "(role boss)\n(user ana boss)\n(row t 3 2)\n"
    ∷ unlike_for plain "(select ana desk ads t (a c))" "(row t 1 2)\n" "(row t 3 2)\n"
    ∷ unlike_for plain "(select ana desk ads t (a) (eq b x))" "(row t 1 2)\n" "(row t 3 2)\n"
    ∷ unlike_for columns "(select ana desk ads t (a b))" "(row t 1 2)\n" "(row t 3 2)\n"
    -- beside a value that may differ, in the same row and in another
    ∷ unlike_for plain "(select ana desk ads t (a))" "(row t 1 2)\n" "(row t 3 4)\n"
    ∷ unlike_for cells "(select ana desk ads t (a))" "(row t (1 shut) (2 open))\n(row t (3 open) (4 open))\n" "(row t (9 shut) (2 open))\n(row t (5 open) (4 open))\n"
    -- a row's label; a cell's; one with its value
    ∷ unlike_for rows "(count ana desk post t)" "(row t open 1)\n" "(row t shut 1)\n"
    ∷ unlike_for cells "(count ana desk post t)" "(row t (1 open) (2 open))\n" "(row t (1 shut) (2 open))\n"
    ∷ unlike_for rows "(count ana desk post t)" "(row t open 1)\n" "(row t shut 2)\n"
    -- a row's table; a line that is no row; a line more, and one less
    ∷ unlike_for plain "" "(table u none (a num) (b num))\n(row t 1 2)\n" "(table u none (a num) (b num))\n(row u 1 2)\n"
    ∷ unlike_for plain "" "(user bob desk)\n" "(user eve desk)\n"
    ∷ unlike_for plain "" "(row t 1 2)\n" "(row t 1 2)\n(row t 1 2)\n"
    ∷ unlike_for plain "" "(row t 1 2)\n" ""
    -- an open value of a named column that differs in the case of letters alone (02, Q-8): selected, in the condition; and one whose column,
    -- table and purpose the query names in another case
    ∷ unlike_for named "(select ana desk ads t (a))" "(row t x y)\n" "(row t X y)\n"
    ∷ unlike_for named "(count ana desk ads t (eq a x))" "(row t x y)\n" "(row t X y)\n"
    ∷ unlike_for named "(SELECT ana desk ADS T (A))" "(row t x y)\n" "(row t z y)\n"
    -- a row's keyword, its table and its label in another case, with a value that may differ
    ∷ unlike_for named "" "(row t x y)\n" "(ROW t x z)\n"
    ∷ unlike_for named "" "(row t x y)\n" "(row T x z)\n"
    ∷ unlike_for rows "" "(row t open 1)\n" "(row t Open 2)\n"
    -- a blank's (02, Q-10): open beside a gap, which does not withhold the row; open in the condition, beside a gap
    ∷ unlike_for cells "(blank ana desk ads t (a b))" "(row t (1 open) (2 shut))\n" "(row t (3 open) (2 shut))\n"
    ∷ unlike_for cells "(blank ana desk ads t (a) (eq b 2))" "(row t (1 shut) (2 open))\n" "(row t (1 shut) (3 open))\n"
    -- a range that becomes a number, and a number that becomes a range (02, Q-12), though the cell is closed, not named or in a withheld row
    ∷ unlike_for shut_table "(select ana desk ads t (a))" "(row t (1 1))\n" "(row t 1)\n"
    ∷ unlike_for plain "(select ana desk ads t (a))" "(row t 1 2)\n" "(row t 1 (2 2))\n"
    ∷ unlike_for cells "(sure ana desk ads t (a b))" "(row t (1 open) (2 shut))\n" "(row t (1 open) ((2 3) shut))\n"
    -- an end of an open range in a named column: selected, in the condition
    ∷ unlike_for plain "(sure ana desk ads t (b))" "(row t 1 (2 3))\n" "(row t 1 (2 4))\n"
    ∷ unlike_for plain "(possible ana desk ads t (a) (gt b 3))" "(row t 1 (2 3))\n" "(row t 1 (1 3))\n"
    -- an open value of a nest table (02, Q-11): allowed by its own label, by its row's, by the table's weak one alone; denied above and
    -- allowed again; allowed by the strong label, though the rest deny it; in a blank, beside a gap
    ∷ unlike_for nest "(select ana desk ads t (a))" "(row t shut (1 open) (2 shut))\n" "(row t shut (3 open) (2 shut))\n"
    ∷ unlike_for nest "(select ana desk ads t (a))" "(row t open (1 shut) (2 shut))\n" "(row t open (3 shut) (2 shut))\n"
    ∷ unlike_for nest "(select ana desk ads t (a))" "(weak t open)\n(row t shut (1 shut) (2 shut))\n" "(weak t open)\n(row t shut (3 shut) (2 shut))\n"
    ∷ unlike_for nest "(select ana desk ads t (a))" "(weak t no)\n(row t open (1 shut) (2 shut))\n" "(weak t no)\n(row t open (3 shut) (2 shut))\n"
    ∷ unlike_for nest "(select ana desk ads t (a))" "(weak t no)\n(row t no (1 open) (2 shut))\n" "(weak t no)\n(row t no (3 open) (2 shut))\n"
    ∷ unlike_for nest "(select ana desk ads t (a))" "(strong t open)\n(weak t no)\n(row t no (1 no) (2 no))\n" "(strong t open)\n(weak t no)\n(row t no (3 no) (2 no))\n"
    ∷ unlike_for nest "(blank ana desk ads t (a b))" "(row t shut (1 open) (2 no))\n" "(row t shut (3 open) (2 no))\n"
    -- an open date; a closed range that ceases to be one
    ∷ unlike_for nest_dates "(blank ana desk ads t (a b))" "(row t open (1 open) ((2028 2 29) shut))\n" "(row t open (1 open) ((2028 3 1) shut))\n"
    ∷ unlike_for nest "(blank ana desk ads t (a b))" "(row t open (1 open) ((2 3) no))\n" "(row t open (1 open) (2 no))\n"
    -- a nest row's label; a cell's; a weak line, a strong one
    ∷ unlike_for nest "(count ana desk post t)" "(row t open (1 open) (2 open))\n" "(row t shut (1 open) (2 open))\n"
    ∷ unlike_for nest "(count ana desk post t)" "(row t open (1 open) (2 open))\n" "(row t open (1 open) (2 shut))\n"
    ∷ unlike_for nest "(count ana desk post t)" "(weak t open)\n(row t open (1 open) (2 open))\n" "(weak t shut)\n(row t open (1 open) (2 open))\n"
    ∷ unlike_for nest "(count ana desk post t)" "(strong t open)\n(row t open (1 open) (2 open))\n" "(strong t shut)\n(row t open (1 open) (2 open))\n"
    -- a refused document: the second, the first, both
    ∷ unlike_for plain "" "(row t 1 2)\n" "(row t 1 x)\n"
    ∷ unlike_for plain "" "(row t 1 x)\n" "(row t 1 2)\n"
    ∷ unlike_for plain "" "(row t 1 x)\n" "(row t 1 y)\n"
    ∷ []

-- the documents differ, and the test says of them what is expected
unfoldable pub as_expected : Witness → Bool
as_expected w = not (same_bytes w.first w.second) && beq (alike? w.text w.first w.second) w.alike

-- Of every witness the test says what is expected.
pub witnesses : all_of as_expected (free_values ++ fixed_values) ≡ true
unfolding computing asker undeclared plain named labelled shut_table open_table columns rows cells named_cells nest nest_dates alike_for unlike_for free_values fixed_values as_expected
witnesses = refl

-- ---- so it is with being alike itself

beq_same : (a b : Bool) → beq a b ≡ true → a ≡ b
beq_same true true h = refl
beq_same true false h = true_not_false h refl
beq_same false true h = true_not_false h refl
beq_same false false h = refl

module _ (i : ℕ) (w : Witness) (here : get_elem? (free_values ++ fixed_values) i ≡ some w) where
  said : alike? w.text w.first w.second ≡ w.alike
  unfolding as_expected
  said = beq_same _ _ (and_right (not (same_bytes w.first w.second)) _ (all_here as_expected (free_values ++ fixed_values) witnesses i w here))

  -- A pair of which that is expected is alike.
  pub alike_witness : w.alike ≡ true → Alike w.text w.first w.second
  alike_witness e = alike_if_tested w.text w.first w.second (said ∙ e)

  -- A pair of which the contrary is expected is not.
  pub unlike_witness : w.alike ≡ false → Alike w.text w.first w.second → ⊥
  unlike_witness e x = true_not_false (sym said ∙ tested_if_alike w.text w.first w.second x) e
