-- The comparisons of a query of one table, whose columns are known: reading them tells what the definitions say. Assumes nothing.
use Prim.Native.Nat.{◌+◌, ◌<◌, ◌≤◌, suc, zero, ℕ}
use lib.ListN.{drop, get_or, get_elem?, length, take}
use lib.Seq.{get_or-drop, get_or-take}
use mathlib.Core.Bool.{Bool, false, true}
use mathlib.Core.List.{List, [], ◌∷◌, map}
use mathlib.Core.Option
use mathlib.Core.Option.{Option, bind, some}
use mathlib.Core.Path.{◌∙◌, ◌≡◌, ap, subst, sym}
use native.Mathlib.Omega.{arith}
use Rattle.condition.specs.Answers.{compared_at, mode_by}
use Rattle.condition.specs.Cond.{map_cond}
use Rattle.condition.specs.CondForm.{Compared}
use Rattle.condition.specs.Kinds.{Kind, numbers}
use Rattle.condition.specs.Ranges.{Mode}
use Rattle.document.specs.Lookup.{column_kind, column_of, columns_at}
use Rattle.document.specs.Policy.{Column, Policy}
use Rattle.judging.proofs.MatchLaws.{get_or_mapped}
use Rattle.judging.specs.Reading.{Comparable, ComparisonsKnown, ComparisonsRead, TestsRead, first_wrong}
use Rattle.judging.specs.Tests.{KindRead, Tested}
use Rattle.judging.specs.declared.sought.Sought.{Sought}
use Rattle.judging.specs.declared.tests.Comparisons.{Comparisons}
use Rattle.lists.proofs.ListLaws.{all_map, find_index_found, map_map, there_some}
use Rattle.lists.proofs.Tests.{and_left, and_right}
use Rattle.lists.specs.Lists.{all_of, or_zero, there}
use Rattle.query.specs.Query.{column_comparison}
use Rattle.query.specs.QueryForm.{mode_of}
use Rattle.query.specs.QueryPlaces.{condition_at, verb_of}
use Rattle.relations.proofs.TableLaws.{column_at_lem, column_inside, table_inside}
use Rattle.relations.specs.Tables.{Tables, column_in, column_kind_in}
use Rattle.text.specs.Words.{is_called}

all_taken : (g : ℕ → Bool) (m j : ℕ) (ops : List ℕ) → all_of g (take m ops) ≡ true → j < m → j < length ops → g (get_or ops j 0) ≡ true
unfolding all_of
all_taken g zero j ops e l k = absurd (omega (arith, l))
all_taken g (suc m) j [] e l k = absurd (omega (arith, k))
all_taken g (suc m) zero (o ∷ ops) e l k = and_left (g o) _ e
all_taken g (suc m) (suc j) (o ∷ ops) e l k = all_taken g m j ops (and_right (g o) _ e) (omega (arith, l)) (omega (arith, k))

-- the comparisons of what is sought, all of one table, which are asked for sure or not
abbrev pub comparisons_of : Sought → Bool → Comparisons
comparisons_of g certain = record { first = g.table; second = g.table; width = 16; test = g.test; tests = g.tests; behind = g.chosen; joined = false; certain = certain }

module _ (text ts s : List ℕ) (g : Sought) (ops cs : List ℕ) (d : Policy) (pr : Comparable text ts s g ops cs d) (long : g.tests ≤ length ops) where
  abbrev columns : List Column
  columns = columns_at d g.table

  -- the column of a comparison, and its type
  abbrev number : Compared → ℕ
  number x = or_zero (column_of columns x.of)

  abbrev kind : Compared → Kind
  kind x = column_kind columns x.of

  number_at : (j : ℕ) → j < g.tests → get_or cs (g.chosen + j) 0 ≡ number (compared_at s (get_or ops j 0))
  number_at j l =
      sym (get_or-drop g.chosen cs j 0) ∙ sym (get_or-take g.tests (drop g.chosen cs) j 0 l)
      ∙ ap (λ ys. get_or ys j 0) (pr.numbers ∙ ap (map number) (sym pr.compared) ∙ map_map number (compared_at s) (take g.tests ops))
      ∙ get_or_mapped (λ p. number (compared_at s p)) g.tests j ops 0 l (omega (arith, l, long))

  there_at : (j : ℕ) → j < g.tests → there (column_of columns (compared_at s (get_or ops j 0)).of) ≡ true
  there_at j l =
      all_taken (λ p. there (column_of columns (compared_at s p).of)) g.tests j ops
      (sym (all_map (λ x. there (column_of columns x.of)) (compared_at s) (take g.tests ops)) ∙ ap (all_of (λ x. there (column_of columns x.of))) pr.compared ∙ pr.all_there)
      l (omega (arith, l, long))

  -- comparison j
  module _ (j : ℕ) (l : j < g.tests) where
    abbrev c : ℕ
    c = get_or cs (g.chosen + j) 0

    found_at : column_of columns (compared_at s (get_or ops j 0)).of ≡ some c
    found_at = there_some (column_of columns (compared_at s (get_or ops j 0)).of) (there_at j l) ∙ ap some (sym (number_at j l))

    inside_at : c < length columns
    unfolding column_of
    inside_at = (find_index_found (λ x. is_called (compared_at s (get_or ops j 0)).of x.name) columns c found_at).1

    kind_at : kind (compared_at s (get_or ops j 0)) ≡ column_kind_in ts g.table c
    unfolding column_kind column_in bind
    kind_at =
        ap (λ (o : Option ℕ). Option.get_or (Option.map (λ x. x.kind) (bind o (get_elem? columns))) numbers) found_at
        ∙ ap (λ (o : Option Column). Option.get_or (Option.map (λ x. x.kind) o) numbers) (column_at_lem text ts pr.table_count g.table d pr.tables pr.inside c inside_at)

    typed_at : (b : Bool) (k : Kind) → KindRead ts (comparisons_of g b) c k → k ≡ kind (compared_at s (get_or ops j 0))
    typed_at b k h =
        let narrow = column_inside text ts pr.table_count g.table d pr.tables pr.inside c inside_at in
        h.first narrow (table_inside text ts pr.table_count g.table d pr.tables pr.inside) narrow ∙ sym kind_at

  pub query_known : (b : Bool) → 80 ≤ length cs → ComparisonsKnown ts s (comparisons_of g b) ops cs number kind
  query_known b room = record {
    few = pr.few;
    long = long;
    room = omega (arith, room, pr.few, pr.few_chosen);
    compared = pr.compared;
    numbered = number_at;
    typed = λ j l. typed_at j l b;
  }

  pub tests_read : (b : Bool) → mode_by b ≡ mode_of (verb_of g.verb) → (rs : List ℕ) → ComparisonsRead s (comparisons_of g b) rs number kind → TestsRead s g rs columns
  unfolding column_comparison
  tests_read b e rs r = record {
    wrong = r.wrong;
    dates = r.dates;
    tested = λ typed. subst (λ (m : Mode). Tested s rs g.tests m (Option.map (map_cond (column_comparison columns)) (condition_at s g.test))) e (r.tested typed);
  }
