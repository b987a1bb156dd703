-- Contract: the comparisons of a query's condition as they are read, eleven numbers for each, and which hold of a row or a pair.
use Rattle.std.specs.Prelude.{◌*◌, ◌+◌, ◌-◌, ◌<◌, ◌≤◌, ℕ, eqb, get_or, length, Bool, cond, false, true, List, [], ◌≡◌}
use Rattle.std.proofs.Math.Option.{Option}
use Rattle.answer.specs.Answer.{matches}
use Rattle.judging.specs.declared.tests.Comparisons.{Comparisons}
use Rattle.judging.specs.declared.tests.TestRead.{TestRead}
use Rattle.calendar.specs.DateText.{day_rank_of}
use Rattle.condition.specs.Answers.{mode_by, naming_by, operator_by, operator_of, value_at}
use Rattle.condition.specs.Comparison.{Comparison}
use Rattle.condition.specs.Cond.{Cond}
use Rattle.condition.specs.CondForm.{Naming}
use Rattle.condition.specs.Kinds.{Kind, dates, has_kind, names, numbers}
use Rattle.condition.specs.Ranges.{Mode, meets_in, other}
use Rattle.std.specs.Prelude as prelude
use Rattle.workspace.specs.Cells.{kind_of_cell}
use Rattle.relations.specs.Tables.{column_kind_in}
use Rattle.lists.specs.Lists.{or_zero}
use Rattle.program.specs.Program.{ProgrammedBy, comes_to}
use Rattle.query.specs.declared.reading.Test.TheVariants as tests
use Rattle.query.specs.declared.reading.Test.{Test}
use Rattle.text.specs.Numbers.{Value, rank}
use Rattle.text.specs.Words.{word_at, written_at}

-- ---- one comparison

-- the comparison of number j
abbrev pub test_in : List ℕ → ℕ → TestRead
test_in ws j = record {
  column = get_or ws (11 * j) 0;
  kind = get_or ws (11 * j + 1) 0;
  operator = get_or ws (11 * j + 2) 0;
  sign = get_or ws (11 * j + 3) 0;
  place = get_or ws (11 * j + 4) 0;
  size = get_or ws (11 * j + 5) 0;
  fits = get_or ws (11 * j + 6) 0;
  rank = get_or ws (11 * j + 7) 0;
  hit = get_or ws (11 * j + 8) 0;
  miss = get_or ws (11 * j + 9) 0;
  certain = get_or ws (11 * j + 10) 0;
}

-- comparison j is stored, and the others stay
pub record TestStored (before after : List ℕ) (j : ℕ) (x : TestRead) : Type 0 where
  pub is : test_in after j ≡ x
  pub kept : (i : ℕ) → i < j → test_in after i ≡ test_in before i

-- the comparison that was read, where s is the query's text
abbrev pub comparison_by : List ℕ → TestRead → Comparison
comparison_by s x = record { of = x.column; kind = kind_of_cell x.kind; op = operator_by x.operator; value = written_at s x.place }

-- the mode in which it is asked: 1 is for sure
abbrev pub mode_is : TestRead → Mode
mode_is x = mode_by (eqb x.certain 1)

-- the mode of a condition's comparisons under an odd number of `not`s, or an even one
abbrev pub mode_under : Mode → Bool → Mode
mode_under m odd = cond odd (other m) m

-- its size is that of its value where that is a name, and its rank is that of a number or a date
pub record Sized (s : List ℕ) (x : TestRead) : Type 0 where
  pub size : x.size ≡ length (word_at s x.place)
  pub ranked : kind_of_cell x.kind ≡ numbers → x.rank ≡ or_zero (rank (written_at s x.place))
  pub plain : kind_of_cell x.kind ≡ names → written_at s x.place ≡ word_at s x.place
  pub dated : kind_of_cell x.kind ≡ dates → x.rank ≡ day_rank_of (written_at s x.place)

-- x is the type of column c, numbered through both tables, which are among those of the array ts
pub record KindRead (ts : List ℕ) (g : Comparisons) (c : ℕ) (x : Kind) : Type 0 where
  pub first : c < g.width → g.first < 8 → c < 16 → x ≡ column_kind_in ts g.first c
  pub second : g.width ≤ c → g.second < 8 → c - g.width < 16 → x ≡ column_kind_in ts g.second (c - g.width)

-- x is read of the comparison of column c whose operator stands at a place of s; it goes on with y or n, and is asked in this mode
pub record TestOf (ts : List ℕ) (g : Comparisons) (s : List ℕ) (op c y n : ℕ) (mode : Mode) (x : TestRead) : Type 0 where
  pub column : x.column ≡ c
  pub kind : KindRead ts g c (kind_of_cell x.kind)
  pub operator : operator_by x.operator ≡ operator_of (word_at s op)
  pub sign : x.sign ≡ op
  pub place : x.place ≡ value_at (naming_by g.joined) s op
  pub fits : eqb x.fits 1 ≡ has_kind (kind_of_cell x.kind) (written_at s x.place)
  pub sized : eqb x.fits 1 ≡ true → Sized s x
  pub hit : x.hit ≡ y
  pub miss : x.miss ≡ n
  pub asked : mode_is x ≡ mode

-- comparison j is read: its operator stands at a place of s that ops has, cs has the number of its column, and the three lists say how it
-- goes on and how it is asked
abbrev pub TestAt : (ts s ops cs : List ℕ) → Comparisons → (trues falses : List ℕ) → List Bool → List ℕ → ℕ → Type 0
TestAt ts s ops cs g trues falses flips ws j =
    TestOf ts g s (get_or ops j 0) (get_or cs (g.behind + j) 0) (get_or trues j 0) (get_or falses j 0) (mode_under (mode_by g.certain) (get_or flips j false)) (test_in ws j)

-- it is sure, or possible, of these values, as it is asked
unfoldable pub test_holds : List Value → List ℕ → TestRead → Bool
test_holds vs s x = meets_in (mode_is x) (comparison_by s x) (get_or vs x.column [])

-- ---- the condition

-- the three lists are the program of the condition, where there is one; its comparisons name columns in this way
pub record ProgramOf (way : Naming) (s : List ℕ) (test : Test) (trues falses : List ℕ) (flips : List Bool) : Type 0 where
  pub result : prelude.Option (ℕ × ℕ)
  pub is : (at n : ℕ) → test ≡ tests.When at n → ProgrammedBy way s at result trues falses flips

-- what was read of the m comparisons of the condition o: they go on as its program says, and running that by which of them are sure
-- or possible of some values says whether the condition is, in this mode
pub record Tested (s ws : List ℕ) (m : ℕ) (mode : Mode) (o : Option (Cond Comparison)) : Type 0 where
  pub few : m ≤ 64
  pub sized : (j : ℕ) → j < m → Sized s (test_in ws j)
  pub trues : List ℕ
  pub falses : List ℕ
  pub flips : List Bool
  pub hit : (j : ℕ) → j < m → (test_in ws j).hit ≡ get_or trues j 0
  pub miss : (j : ℕ) → j < m → (test_in ws j).miss ≡ get_or falses j 0
  pub modes : (j : ℕ) → j < m → mode_is (test_in ws j) ≡ mode_under mode (get_or flips j false)
  pub absent : m ≡ 0 → (vs : List Value) → matches mode o vs ≡ true
  pub runs : 0 < m → (F : Bool → ℕ → Bool) (vs : List Value)
      → ((odd : Bool) (j : ℕ) → j < m → F odd j ≡ meets_in (mode_under mode odd) (comparison_by s (test_in ws j)) (get_or vs (test_in ws j).column []))
      → comes_to F trues falses flips m ≡ matches mode o vs
