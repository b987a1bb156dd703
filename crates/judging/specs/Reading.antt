-- Contract: what reading the comparisons of a query, or of a join, needs of it, and what it gives: 16, 31, and how the rows are judged.
use Rattle.std.specs.Prelude.{◌+◌, ◌<◌, ◌≤◌, ℕ, eqb, drop, get_or, length, take, Bool, false, true, List, [], ◌∷◌, map, ◌≡◌}
use Rattle.std.proofs.Math.Option
use Rattle.std.proofs.Math.Option.{Option, none}
use Rattle.condition.specs.Answers.{compared_at, compared_by, mode_by, naming_by, operator_by}
use Rattle.condition.specs.Comparison.{Comparison}
use Rattle.condition.specs.Cond.{Cond, comparisons_in, map_cond}
use Rattle.condition.specs.CondForm.{Compared, mistyped}
use Rattle.condition.specs.Kinds.{Kind, takes}
use Rattle.document.specs.Lookup.{column_kind, column_of, columns_at}
use Rattle.document.specs.Policy.{Column, Policy}
use Rattle.judging.specs.Tests.{KindRead, Tested, test_in}
use Rattle.judging.specs.declared.sought.Sought.{Sought}
use Rattle.judging.specs.declared.tests.Comparisons.{Comparisons}
use Rattle.judging.specs.declared.tests.TestRead.{TestRead}
use Rattle.lists.specs.Lists.{all_of, or_zero, there}
use Rattle.query.specs.JoinPlaces.{join_condition_at}
use Rattle.query.specs.Query.{column_comparison, is_missing_date}
use Rattle.query.specs.QueryForm.{mode_of}
use Rattle.query.specs.QueryPlaces.{condition_at, verb_of}
use Rattle.query.specs.declared.reading.Test.{Test}
use Rattle.relations.specs.Tables.{Tables}
use Rattle.text.specs.Offending.{leftmost, offending_if, unless}
use Rattle.text.specs.Words.{Word, written_at, written_of}
use Rattle.workspace.specs.Cells.{kind_of_cell}
use Rattle.workspace.specs.Tabulated.{tabulated}

-- ---- what reading needs

-- the condition at a place, that of a join or not
abbrev pub condition_for : Bool → List ℕ → Test → Option (Cond Compared)
condition_for true s t = join_condition_at s t
condition_for false s t = condition_at s t

-- a comparison, where number and kind say which column it compares and of which type that is
abbrev pub comparison_of : (Compared → ℕ) → (Compared → Kind) → Compared → Comparison
comparison_of number kind x = record { of = number x; kind = kind x; op = x.op; value = x.value.bytes }

-- the columns of comparisons are known: ts are the document's tables, ops are the places of the operators in the text s, and cs has the
-- columns' numbers, behind others
pub record ComparisonsKnown (ts s : List ℕ) (g : Comparisons) (ops cs : List ℕ) (number : Compared → ℕ) (kind : Compared → Kind) : Type 0 where
  pub few : g.tests ≤ 64
  pub long : g.tests ≤ length ops
  pub room : g.behind + g.tests ≤ length cs
  pub compared : map (compared_by (naming_by g.joined) s) (take g.tests ops) ≡ comparisons_in (condition_for g.joined s g.test)
  pub numbered : (j : ℕ) → j < g.tests → get_or cs (g.behind + j) 0 ≡ number (compared_by (naming_by g.joined) s (get_or ops j 0))
  pub typed : (j : ℕ) → j < g.tests → (k : Kind) → KindRead ts g (get_or cs (g.behind + j) 0) k → k ≡ kind (compared_by (naming_by g.joined) s (get_or ops j 0))

-- the columns that the comparisons of what is sought name are known: ts are the document's tables, ops are the places of the operators
-- in the query's text s, and behind the numbers of the selected columns cs has those of the columns that are compared
pub record Comparable (text ts s : List ℕ) (g : Sought) (ops cs : List ℕ) (d : Policy) : Type 0 where
  pub table_count : ℕ
  pub tables : Tables text ts table_count d.tables
  pub inside : g.table < table_count
  pub few : g.tests ≤ 64
  pub few_chosen : g.chosen ≤ 16
  pub compared : map (compared_at s) (take g.tests ops) ≡ comparisons_in (condition_at s g.test)
  pub numbers : take g.tests (drop g.chosen cs) ≡ map (λ x. or_zero (column_of (columns_at d g.table) x.of)) (comparisons_in (condition_at s g.test))
  pub all_there : all_of (λ x. there (column_of (columns_at d g.table) x.of)) (comparisons_in (condition_at s g.test)) ≡ true

-- ---- what it gives

-- the operator of a comparison, or else its value, that is of the wrong type, as what was read tells it
unfoldable pub wrong_by : List ℕ → TestRead → Option Word
wrong_by s x = leftmost (unless (takes (kind_of_cell x.kind) (operator_by x.operator)) (written_of s x.sign) ∷ unless (eqb x.fits 1) (written_of s x.place) ∷ [])

-- the first of the wrong type among the m comparisons of the array ws
unfoldable pub first_wrong : (s ws : List ℕ) → ℕ → Option Word
first_wrong s ws m = leftmost (tabulated (λ j. wrong_by s (test_in ws j)) m)

-- the value of a comparison, where it is a date that does not exist
unfoldable pub missing_by : List ℕ → TestRead → Option Word
missing_by s x = offending_if (is_missing_date (written_at s x.place)) (written_of s x.place)

-- the first date that does not exist among the m comparisons of the array ws
unfoldable pub first_missing : (s ws : List ℕ) → ℕ → Option Word
first_missing s ws m = leftmost (tabulated (λ j. missing_by s (test_in ws j)) m)

-- comparisons are read into the array ws: it tells what is of the wrong type (16), which date does not exist (31), and, where the types are
-- right, what the condition comes to of a row or a pair
pub record ComparisonsRead (s : List ℕ) (g : Comparisons) (ws : List ℕ) (number : Compared → ℕ) (kind : Compared → Kind) : Type 0 where
  pub wrong : first_wrong s ws g.tests ≡ leftmost (map (λ x. mistyped (kind x) x) (comparisons_in (condition_for g.joined s g.test)))
  pub dates : first_missing s ws g.tests ≡ leftmost (map (λ x. offending_if (is_missing_date x.value.bytes) x.value) (comparisons_in (condition_for g.joined s g.test)))
  pub tested : first_wrong s ws g.tests ≡ none → Tested s ws g.tests (mode_by g.certain) (Option.map (map_cond (comparison_of number kind)) (condition_for g.joined s g.test))

-- tests::read_comparisons: they are read into the array ws, where their columns are known
abbrev pub ReadsComparisons : (ts s : List ℕ) → Comparisons → (ops cs ws : List ℕ) → Type 0
ReadsComparisons ts s g ops cs ws =
    (number : Compared → ℕ) (kind : Compared → Kind) → ComparisonsKnown ts s g ops cs number kind → ComparisonsRead s g ws number kind

-- the comparisons of what is sought are read into the array ws: it tells what is of the wrong type (16), which date does not exist
-- (31), and, where the types are right, what the condition, whose columns are among these, comes to of a row
pub record TestsRead (s : List ℕ) (g : Sought) (ws : List ℕ) (columns : List Column) : Type 0 where
  pub wrong : first_wrong s ws g.tests ≡ leftmost (map (λ x. mistyped (column_kind columns x.of) x) (comparisons_in (condition_at s g.test)))
  pub dates : first_missing s ws g.tests ≡ leftmost (map (λ x. offending_if (is_missing_date x.value.bytes) x.value) (comparisons_in (condition_at s g.test)))
  pub tested : first_wrong s ws g.tests ≡ none → Tested s ws g.tests (mode_of (verb_of g.verb)) (Option.map (map_cond (column_comparison columns)) (condition_at s g.test))
