-- The condition of a query or a join as it was read: what is wrong with its types, and that running its program by the comparisons is
-- evaluating it. Assumes nothing.
use Prim.Native.Nat.{◌+◌, ◌<◌, ◌≤◌, suc, zero, ℕ}
use lib.ListN.{get_or, length, length-append, length-map, take}
use lib.Seq.{length-take-le}
use mathlib.Core.Bool.{Bool, ◌&&◌, ◌||◌, false, not, true}
use mathlib.Core.List.{List, [], ◌∷◌, map}
use mathlib.Core.Option
use mathlib.Core.Option.{Option, none, some}
use mathlib.Core.Path.{◌∙◌, ◌≡◌, ap, refl, subst, sym}
use native.Mathlib.Omega.{arith}
use Rattle.answer.specs.Answer.{matches}
use Rattle.judging.proofs.TypeLaws.{compared_op, missing_told, none_at, tabulated_taken, value_read, wrong_none, wrong_read}
use Rattle.judging.specs.Reading.{ComparisonsKnown, ComparisonsRead, comparison_of, condition_for, first_missing, first_wrong, missing_by, wrong_by}
use Rattle.judging.specs.Tests.{ProgramOf, TestAt, comparison_by, mode_under, test_in}
use Rattle.judging.specs.declared.tests.Comparisons.{Comparisons}
use Rattle.condition.specs.Answers.{compared_by, compared_in, condition_by, mode_by, naming_by}
use Rattle.condition.specs.Comparison.{Comparison}
use Rattle.condition.specs.Cond.{Cond, Conds, both, comparisons, comparisons_in, comparisons_of, either, hold_two_all, hold_two_any, holds_two, last, map_cond, map_conds, more, negate, test}
use Rattle.condition.specs.CondForm.{Compared, mistyped}
use Rattle.condition.specs.Kinds.{Kind}
use Rattle.condition.specs.Ranges.{Mode, meets_in, other, passes_in}
use Rattle.std.specs.Prelude as prelude
use Rattle.lists.proofs.ListLaws.{map_map}
use Rattle.program.proofs.ProgramLaws.{Agree, program_two}
use Rattle.program.specs.Program.{ProgrammedBy, comes_to}
use Rattle.query.specs.JoinPlaces.{join_condition_at}
use Rattle.query.specs.Query.{is_missing_date}
use Rattle.query.specs.QueryPlaces.{condition_at}
use Rattle.query.specs.declared.reading.Test.TheVariants as tests
use Rattle.query.specs.declared.reading.Test.{Test}
use Rattle.text.specs.Numbers.{Value}
use Rattle.text.specs.Reader.{Left, from}
use Rattle.text.specs.Offending.{leftmost, offending_if}
use Rattle.text.specs.Words.{Word}
use Rattle.workspace.proofs.TabulatedLaws.{tabulated_same}
use Rattle.workspace.specs.Cells.{kind_of_cell}

-- a condition has one comparison at least
mutual
  unfolding comparisons

  comparisons_some : {C : Type 0} (c : Cond C) → 1 ≤ length (comparisons c)
  comparisons_some (test c) = omega arith
  comparisons_some (negate c) = comparisons_some c
  comparisons_some (both cs) = comparisons_of_some cs
  comparisons_some (either cs) = comparisons_of_some cs

  comparisons_of_some : {C : Type 0} (cs : Conds C) → 1 ≤ length (comparisons_of cs)
  comparisons_of_some (last c) = comparisons_some c
  comparisons_of_some (more c cs) = omega (arith, comparisons_some c, length-append (comparisons c) (comparisons_of cs))

-- the comparisons of what was read, either way
comparisons_read : (o : Option (Cond Compared × Left)) → compared_in o ≡ comparisons_in (Option.map (λ x. x.0) o)
unfolding comparisons_in
comparisons_read none = refl
comparisons_read (some r) = refl

-- a condition with each comparison replaced goes by what its two tests say of what replaces it
mutual
  unfolding holds_two map_cond

  two_map : {C D : Type 0} (f g : D → Bool) (h : C → D) (c : Cond C) → holds_two f g (map_cond h c) ≡ holds_two (λ x. f (h x)) (λ x. g (h x)) c
  two_map f g h (test c) = refl
  two_map f g h (negate c) = ap not (two_map g f h c)
  two_map f g h (both cs) = all_map_two f g h cs
  two_map f g h (either cs) = any_map_two f g h cs

  all_map_two : {C D : Type 0} (f g : D → Bool) (h : C → D) (cs : Conds C) → hold_two_all f g (map_conds h cs) ≡ hold_two_all (λ x. f (h x)) (λ x. g (h x)) cs
  all_map_two f g h (last c) = two_map f g h c
  all_map_two f g h (more c cs) = λ i. two_map f g h c i && all_map_two f g h cs i

  any_map_two : {C D : Type 0} (f g : D → Bool) (h : C → D) (cs : Conds C) → hold_two_any f g (map_conds h cs) ≡ hold_two_any (λ x. f (h x)) (λ x. g (h x)) cs
  any_map_two f g h (last c) = two_map f g h c
  any_map_two f g h (more c cs) = λ i. two_map f g h c i || any_map_two f g h cs i

-- what was read holds by two tests
abbrev two_read : (Compared → Bool) → (Compared → Bool) → Option (Cond Compared × Left) → Bool
two_read f g none = false
two_read f g (some r) = holds_two f g r.0

-- g resolves the comparisons, vs are the values of a row
module _ (mode : Mode) (g : Compared → Comparison) (vs : List Value) where
  -- the comparison is sure or possible of the values, under an odd number of `not`s or an even one
  abbrev holds_here : Bool → Compared → Bool
  holds_here odd x = meets_in (mode_under mode odd) (g x) (get_or vs (g x).of [])

  -- where a condition was read that has comparisons, the row matches if it holds
  matches_read : (o : Option (Cond Compared × Left)) → 1 ≤ length (compared_in o) → matches mode (Option.map (map_cond g) (Option.map (λ x. x.0) o)) vs ≡ two_read (holds_here false) (holds_here true) o
  unfolding matches passes_in
  matches_read none l = absurd (omega (arith, l))
  matches_read (some r) l = two_map (λ t. meets_in mode t (get_or vs t.of [])) (λ t. meets_in (other mode) t (get_or vs t.of [])) g r.0

  -- where there are no comparisons there is no condition
  matches_none : (o : Option (Cond Compared)) → length (comparisons_in o) ≡ 0 → matches mode (Option.map (map_cond g) o) vs ≡ true
  unfolding matches comparisons_in
  matches_none none e = refl
  matches_none (some c) e = absurd (omega (arith, comparisons_some c, e))

-- ---- the first m of a list, by their numbers

pub get_or_mapped : {A : Type 0} (h : ℕ → A) (m j : ℕ) (ops : List ℕ) (z : A) → j < m → j < length ops → get_or (map h (take m ops)) j z ≡ h (get_or ops j 0)
get_or_mapped h zero j ops z l k = absurd (omega (arith, l))
get_or_mapped h (suc m) j [] z l k = absurd (omega (arith, k))
get_or_mapped h (suc m) zero (o ∷ ops) z l k = refl
get_or_mapped h (suc m) (suc j) (o ∷ ops) z l k = get_or_mapped h m j ops z (omega (arith, l)) (omega (arith, k))

-- ---- the condition by its place

-- the condition at a place, in whichever way it names columns
condition_when : (joined : Bool) (s : List ℕ) (at n : ℕ) → condition_for joined s (tests.When at n) ≡ Option.map (λ x. x.0) (condition_by (naming_by joined) (from s at))
unfolding condition_at join_condition_at
condition_when true s at n = refl
condition_when false s at n = refl

-- no comparisons where there is none
condition_always : (joined : Bool) (s : List ℕ) → length (comparisons_in (condition_for joined s tests.Always)) ≡ 0
unfolding condition_at join_condition_at comparisons_in
condition_always true s = refl
condition_always false s = refl

-- ---- a condition whose columns are known

module _ (ts s : List ℕ) (g : Comparisons) (ops cs : List ℕ) (number : Compared → ℕ) (kind : Compared → Kind) (pr : ComparisonsKnown ts s g ops cs number kind) where
  -- the comparison whose operator stands at a place
  abbrev here : ℕ → Compared
  here = compared_by (naming_by g.joined) s

  -- the mode in which the condition is asked
  abbrev mode : Mode
  mode = mode_by g.certain

  -- the condition, as it was read and with its columns by number
  abbrev given : Option (Cond Compared)
  given = condition_for g.joined s g.test

  abbrev resolved : Option (Cond Comparison)
  resolved = Option.map (map_cond (comparison_of number kind)) given

  -- what is wrong with the types of a comparison
  abbrev wrong : Compared → Option Word
  wrong x = mistyped (kind x) x

  compared_many : length (comparisons_in given) ≡ g.tests
  compared_many = ap length (sym pr.compared) ∙ length-map (take g.tests ops) here ∙ length-take-le g.tests ops pr.long

  -- no comparisons, and so no condition
  absent_here : g.tests ≡ 0 → (vs : List Value) → matches mode resolved vs ≡ true
  absent_here e vs = matches_none mode (comparison_of number kind) vs given (compared_many ∙ e)

  -- the comparisons that were read, by the numbers of their places
  module _ (trues falses : List ℕ) (flips : List Bool) (rs : List ℕ)
      (each : (j : ℕ) → j < g.tests → TestAt ts s ops cs g trues falses flips rs j) where
    kind_at : (j : ℕ) → j < g.tests → kind_of_cell (test_in rs j).kind ≡ kind (here (get_or ops j 0))
    kind_at j l = pr.typed j l (kind_of_cell (test_in rs j).kind) (each j l).kind

    -- what is read of one is the comparison of the definitions
    comparison_is : (j : ℕ) → j < g.tests → comparison_by s (test_in rs j) ≡ comparison_of number kind (here (get_or ops j 0))
    comparison_is j l = λ i. record {
      of = ((each j l).column ∙ pr.numbered j l) i;
      kind = kind_at j l i;
      op = ((each j l).operator ∙ sym (compared_op s (get_or ops j 0) (naming_by g.joined))) i;
      value = (value_read ts g s (get_or ops j 0) (get_or cs (g.behind + j) 0) (get_or trues j 0) (get_or falses j 0) (mode_under mode (get_or flips j false)) (test_in rs j) (each j l) i).bytes;
    }

    -- F says which of them are sure or possible of the values
    module _ (F : Bool → ℕ → Bool) (vs : List Value) (says : (odd : Bool) (j : ℕ) → j < g.tests → F odd j ≡ meets_in (mode_under mode odd) (comparison_by s (test_in rs j)) (get_or vs (test_in rs j).column [])) where
      abbrev holds_of_it : Bool → Compared → Bool
      holds_of_it = holds_here mode (comparison_of number kind) vs

      says_it : (odd : Bool) (j : ℕ) → j < g.tests → F odd j ≡ holds_of_it odd (here (get_or ops j 0))
      says_it odd j l = says odd j l ∙ ap (λ (c : Comparison). meets_in (mode_under mode odd) c (get_or vs c.of [])) (comparison_is j l)

      agreed : (odd : Bool) → Agree (F odd) (holds_of_it odd) 0 (map here (take g.tests ops))
      agreed odd j h =
          let l : j < g.tests = omega (arith, h, length-map (take g.tests ops) here, length-take-le g.tests ops pr.long) in
          let z : 0 + j ≡ j = omega arith in
          ap (F odd) z ∙ says_it odd j l
          ∙ sym (get_or_mapped (λ p. holds_of_it odd (here p)) g.tests j ops false l (omega (arith, l, pr.long)))
          ∙ ap (λ (bs : List Bool). get_or bs j false) (sym (map_map (holds_of_it odd) here (take g.tests ops)))

      -- the condition at a place of the query
      module _ (at n : ℕ) (e : g.test ≡ tests.When at n) (result : prelude.Option (ℕ × ℕ)) (p : ProgrammedBy (naming_by g.joined) s at result trues falses flips) (least : 0 < g.tests) where
        -- what was read there
        abbrev there_read : Option (Cond Compared × Left)
        there_read = condition_by (naming_by g.joined) (from s at)

        given_here : given ≡ Option.map (λ x. x.0) there_read
        given_here = ap (condition_for g.joined s) e ∙ condition_when g.joined s at n

        compared_here : compared_in there_read ≡ map here (take g.tests ops)
        compared_here = comparisons_read there_read ∙ ap comparisons_in (sym given_here) ∙ sym pr.compared

        some_here : 1 ≤ length (compared_in there_read)
        some_here = omega (arith, least, ap length compared_here, length-map (take g.tests ops) here, length-take-le g.tests ops pr.long)

        held_here : matches mode resolved vs ≡ two_read (holds_of_it false) (holds_of_it true) there_read
        held_here =
            ap (λ c. matches mode (Option.map (map_cond (comparison_of number kind)) c) vs) given_here
            ∙ matches_read mode (comparison_of number kind) vs there_read some_here

        runs_read : (o : Option (Cond Compared × Left)) → there_read ≡ o → comes_to F trues falses flips g.tests ≡ two_read (holds_of_it false) (holds_of_it true) o
        runs_read none z = absurd (omega (arith, some_here, ap (λ (o : Option (Cond Compared × Left)). length (compared_in o)) z))
        runs_read (some r) z =
            let same : comparisons r.0 ≡ map here (take g.tests ops) = ap compared_in (sym z) ∙ compared_here in
            let many : length (comparisons r.0) ≡ g.tests = ap length same ∙ length-map (take g.tests ops) here ∙ length-take-le g.tests ops pr.long in
            let fits : length (comparisons r.0) ≤ 64 = omega (arith, many, pr.few) in
            ap (comes_to F trues falses flips) (sym many)
            ∙ program_two s at result trues falses flips p r.0 r.1 z fits F (holds_of_it false) (holds_of_it true)
            (subst (λ (xs : List Compared). Agree (F false) (holds_of_it false) 0 xs) (sym same) (agreed false))
            (subst (λ (xs : List Compared). Agree (F true) (holds_of_it true) 0 xs) (sym same) (agreed true))

        runs_when : comes_to F trues falses flips g.tests ≡ matches mode resolved vs
        runs_when = runs_read there_read refl ∙ sym held_here

      runs_by : ProgramOf (naming_by g.joined) s g.test trues falses flips → 0 < g.tests → (t : Test) → g.test ≡ t → comes_to F trues falses flips g.tests ≡ matches mode resolved vs
      runs_by p least tests.Always e = absurd (omega (arith, least, compared_many, ap (λ (z : Test). length (comparisons_in (condition_for g.joined s z))) e, condition_always g.joined s))
      runs_by p least (tests.When at n) e = runs_when at n e p.result (p.is at n e) least

    -- 16, as the array tells it
    wrong_told : first_wrong s rs g.tests ≡ leftmost (map wrong (comparisons_in given))
    unfolding first_wrong
    wrong_told =
        ap leftmost
        (tabulated_same (λ j. wrong_by s (test_in rs j)) (λ j. wrong (here (get_or ops j 0))) g.tests
        (λ j l.
        wrong_read ts g s (get_or ops j 0) (get_or cs (g.behind + j) 0) (get_or trues j 0) (get_or falses j 0) (mode_under mode (get_or flips j false)) (test_in rs j) (each j l)
        ∙ ap (λ k. mistyped k (here (get_or ops j 0))) (kind_at j l))
        ∙ tabulated_taken (λ p. wrong (here p)) g.tests ops pr.long
        ∙ sym (map_map wrong here (take g.tests ops))
        ∙ ap (map wrong) pr.compared)

    -- 31, likewise
    abbrev absent : Compared → Option Word
    absent x = offending_if (is_missing_date x.value.bytes) x.value

    dates_told : first_missing s rs g.tests ≡ leftmost (map absent (comparisons_in given))
    unfolding first_missing
    dates_told =
        ap leftmost
        (tabulated_same (λ j. missing_by s (test_in rs j)) (λ j. absent (here (get_or ops j 0))) g.tests
        (λ j l. missing_told ts g s (get_or ops j 0) (get_or cs (g.behind + j) 0) (get_or trues j 0) (get_or falses j 0) (mode_under mode (get_or flips j false)) (test_in rs j) (each j l))
        ∙ tabulated_taken (λ p. absent (here p)) g.tests ops pr.long
        ∙ sym (map_map absent here (take g.tests ops))
        ∙ ap (map absent) pr.compared)

    pub comparisons_told : ProgramOf (naming_by g.joined) s g.test trues falses flips → ComparisonsRead s g rs number kind
    comparisons_told p = record {
      wrong = wrong_told;
      dates = dates_told;
      tested = λ typed. record {
        few = pr.few;
        sized = λ j l. (each j l).sized (wrong_none s (test_in rs j) (none_at (λ i. wrong_by s (test_in rs i)) g.tests j l (unfold first_wrong in typed)));
        trues = trues;
        falses = falses;
        flips = flips;
        hit = λ j l. (each j l).hit;
        miss = λ j l. (each j l).miss;
        modes = λ j l. (each j l).asked;
        absent = absent_here;
        runs = λ least F vs says. runs_by F vs says p least g.test refl;
      };
    }
