-- The comparisons as the code reads them before the rows: how they are stored, and which of them hold of a row. Assumes nothing.
use Prim.Native.Nat.{◌*◌, ◌+◌, ◌<◌, ◌≤◌, suc, zero, ℕ}
use borrow.Author.Count.{below_more}
use lib.Dec.{eqb}
use lib.ListN.{drop, get_or, length, length-set, set}
use lib.Seq.{get_or-set_other, get_or-set_same}
use mathlib.Core.Bool.{Bool, cond, false, not, true}
use mathlib.Core.List.{List, [], ◌∷◌}
use mathlib.Core.Option.{Option}
use mathlib.Core.Path.{◌∙◌, ◌≡◌, ap, refl, subst, sym}
use native.Mathlib.Omega.{arith}
use Rattle.answer.specs.Answer.{matches}
use Rattle.judging.specs.Tests.{ProgramOf, Sized, TestOf, TestStored, Tested, comparison_by, mode_is, mode_under, test_holds, test_in}
use Rattle.judging.specs.declared.tests.Comparisons.{Comparisons}
use Rattle.judging.specs.declared.tests.TestRead.{TestRead}
use Rattle.calendar.specs.DateText.{day_rank_of}
use Rattle.condition.specs.Answers.{mode_by, operator_by}
use Rattle.condition.specs.Comparison.{Comparison, names_meet, ranks_meet}
use Rattle.condition.specs.Cond.{Cond}
use Rattle.condition.specs.CondForm.{Naming}
use Rattle.condition.specs.Kinds.{Kind, Op}
use Rattle.condition.specs.Ranges.{Mode, ends_of, meets_in, other, range_meets, values_meet_in}
use Rattle.std.specs.Prelude as prelude
use Rattle.std.specs.Prelude.{None}
use Rattle.workspace.proofs.CellLaws.{kind_dates}
use Rattle.workspace.specs.Cells.{kind_of_cell}
use Rattle.lists.proofs.Tests.{and_left, both, never, true_not_false}
use Rattle.program.proofs.RunLaws.{all_steps, from_step, step_back, step_end, step_first, step_on}
use Rattle.program.specs.Program.{ProgrammedBy}
use Rattle.query.specs.declared.reading.Test.TheVariants as tests
use Rattle.query.specs.declared.reading.Test.{Test}
use Rattle.text.proofs.Closings.{closing_more, written_bracket}
use Rattle.text.proofs.Lefts.{before_end}
use Rattle.text.proofs.NameLaws.{same_name_sym}
use Rattle.text.proofs.WordLaws.{same_name_byte, word_more, word_stop}
use Rattle.text.specs.Amounts.{Range}
use Rattle.text.specs.Bytes.{is_digit, is_letter, is_name_byte}
use Rattle.text.specs.Names.{Name, same_byte, same_name}
use Rattle.text.specs.Numbers.{Value}
use Rattle.text.specs.Words.{to_closing, word_at, written_at}

-- ---- one comparison of a row

-- the same two names, the other way round
pub same_turned : (m n : Name) → same_name m n ≡ same_name n m
same_turned m n = both (same_name m n) (same_name n m) (same_name_sym m n) (same_name_sym n m)

-- a name is no value that begins with a bracket
pub bracket_unlike : (q : List ℕ) (p : ℕ) (s : List ℕ) (at : ℕ) → get_or s at 0 ≡ 40 → same_name (word_at q p) (written_at s at) ≡ false
unfolding same_name is_name_byte is_letter is_digit
bracket_unlike q p s at b = ap (same_name (word_at q p)) here ∙ go (is_name_byte (get_or q p 0)) refl
  where
    here : written_at s at ≡ 40 ∷ to_closing (drop (at + 1) s)
    here =
        written_bracket s at b ∙ closing_more s at (before_end s at (λ z. absurd (omega (arith, b, z)))) (λ z. absurd (omega (arith, b, z))) (λ z. absurd (omega (arith, b, z)))
        ∙ ap (λ (c : ℕ). c ∷ to_closing (drop (at + 1) s)) b

    go : (t : Bool) → is_name_byte (get_or q p 0) ≡ t → same_name (word_at q p) (40 ∷ to_closing (drop (at + 1) s)) ≡ false
    go true k = ap (λ (w : Name). same_name w (40 ∷ to_closing (drop (at + 1) s))) (word_more q p k) ∙ never _ (λ h. true_not_false (same_name_byte (get_or q p 0) 40 (and_left (same_byte (get_or q p 0) 40) _ h) k) refl)
    go false k = ap (λ (w : Name). same_name w (40 ∷ to_closing (drop (at + 1) s))) (word_stop q p k)

-- v is the value that is compared
module _ (s : List ℕ) (x : TestRead) (o : Op) (eo : o ≡ operator_by x.operator) (v : Value) (b : Bool) where
  -- of numbers, e being the ends of the value and n the rank of the other
  pub holds_numbers : x.kind ≡ 0 → Sized s x → (e : Range) (n : ℕ) → e ≡ ends_of v → n ≡ x.rank → b ≡ range_meets (mode_is x) o e.low e.high n → b ≡ meets_in (mode_is x) (comparison_by s x) v
  unfolding meets_in values_meet_in kind_of_cell
  holds_numbers z sized e n ee en h =
      h ∙ (λ i. range_meets (mode_is x) (eo i) (ee i).low (ee i).high ((en ∙ sized.ranked (ap kind_of_cell z)) i))
      ∙ ap (λ (y : ℕ). values_meet_in (mode_is x) (kind_of_cell y) (operator_by x.operator) v (written_at s x.place)) (sym z)

  -- of names
  pub holds_names : x.kind ≡ 1 → Sized s x → b ≡ names_meet o v (word_at s x.place) → b ≡ meets_in (mode_is x) (comparison_by s x) v
  unfolding meets_in values_meet_in kind_of_cell
  holds_names z sized h =
      h ∙ (λ i. names_meet (eo i) v (sym (sized.plain (ap kind_of_cell z)) i))
      ∙ ap (λ (y : ℕ). values_meet_in (mode_is x) (kind_of_cell y) (operator_by x.operator) v (written_at s x.place)) (sym z)

  -- of dates, m being the rank of the value and n that of the other
  pub holds_dates : (x.kind ≡ 0 → ⊥) → (x.kind ≡ 1 → ⊥) → Sized s x → (m n : ℕ) → m ≡ day_rank_of v → n ≡ x.rank → b ≡ ranks_meet o m n → b ≡ meets_in (mode_is x) (comparison_by s x) v
  unfolding meets_in values_meet_in
  holds_dates y z sized m n em en h =
      let k = kind_dates x.kind y z in
      h ∙ (λ i. ranks_meet (eo i) (em i) ((en ∙ sized.dated k) i))
      ∙ ap (λ (y : Kind). values_meet_in (mode_is x) y (operator_by x.operator) v (written_at s x.place)) (sym k)

-- the value that is compared stands among these
pub holds_among : (vs : List Value) (s : List ℕ) (x : TestRead) (v : Value) → v ≡ get_or vs x.column [] → (b : Bool) → b ≡ meets_in (mode_is x) (comparison_by s x) v → b ≡ test_holds vs s x
unfolding test_holds
holds_among vs s x v e b h = h ∙ ap (meets_in (mode_is x) (comparison_by s x)) e

-- ---- how it is asked

pub asked_odd : (b odd : Bool) → odd ≡ true → mode_by (not b) ≡ mode_under (mode_by b) odd
unfolding other
asked_odd b odd e = go b ∙ sym (ap (mode_under (mode_by b)) e)
  where
    go : (b : Bool) → mode_by (not b) ≡ other (mode_by b)
    go true = refl
    go false = refl

pub asked_even : (b odd : Bool) → odd ≡ false → mode_by b ≡ mode_under (mode_by b) odd
asked_even b odd e = sym (ap (mode_under (mode_by b)) e)

-- ---- as they are stored

-- what holds of each place stored before holds with one place more
pub stored_more : (P : ℕ → Bool → Type 0) (bs : List Bool) (j : ℕ) (b : Bool) → j < length bs → ((i : ℕ) → i < j → P i (get_or bs i false)) → P j b → (i : ℕ) → i < j + 1 → P i (get_or (set bs j b) i false)
stored_more P bs j b l old new =
    below_more (λ i. P i (get_or (set bs j b) i false)) j
    (λ i m. subst (P i) (sym (get_or-set_other bs j i b false (λ e. omega (arith, m, e)))) (old i m))
    (subst (P j) (sym (get_or-set_same bs j b false l)) new)

-- the array ws with comparison j stored, number by number
module _ (ws : List ℕ) (j : ℕ) (x : TestRead) where
  abbrev with_column : List ℕ
  with_column = set ws (11 * j) x.column

  abbrev with_kind : List ℕ
  with_kind = set with_column (11 * j + 1) x.kind

  abbrev with_operator : List ℕ
  with_operator = set with_kind (11 * j + 2) x.operator

  abbrev with_sign : List ℕ
  with_sign = set with_operator (11 * j + 3) x.sign

  abbrev with_place_lem : List ℕ
  with_place_lem = set with_sign (11 * j + 4) x.place

  abbrev with_size : List ℕ
  with_size = set with_place_lem (11 * j + 5) x.size

  abbrev with_fits : List ℕ
  with_fits = set with_size (11 * j + 6) x.fits

  abbrev with_rank : List ℕ
  with_rank = set with_fits (11 * j + 7) x.rank

  abbrev with_hit : List ℕ
  with_hit = set with_rank (11 * j + 8) x.hit

  abbrev with_miss : List ℕ
  with_miss = set with_hit (11 * j + 9) x.miss

  abbrev with_certain : List ℕ
  with_certain = set with_miss (11 * j + 10) x.certain

  module _ (l : 11 * j + 10 < length ws) where
    pub long_column : 11 * j + 10 < length with_column
    long_column = omega (arith, l, length-set ws (11 * j) x.column)

    pub long_kind : 11 * j + 10 < length with_kind
    long_kind = omega (arith, long_column, length-set with_column (11 * j + 1) x.kind)

    pub long_operator : 11 * j + 10 < length with_operator
    long_operator = omega (arith, long_kind, length-set with_kind (11 * j + 2) x.operator)

    pub long_sign : 11 * j + 10 < length with_sign
    long_sign = omega (arith, long_operator, length-set with_operator (11 * j + 3) x.sign)

    pub long_place : 11 * j + 10 < length with_place_lem
    long_place = omega (arith, long_sign, length-set with_sign (11 * j + 4) x.place)

    pub long_size : 11 * j + 10 < length with_size
    long_size = omega (arith, long_place, length-set with_place_lem (11 * j + 5) x.size)

    pub long_fits : 11 * j + 10 < length with_fits
    long_fits = omega (arith, long_size, length-set with_size (11 * j + 6) x.fits)

    pub long_rank : 11 * j + 10 < length with_rank
    long_rank = omega (arith, long_fits, length-set with_fits (11 * j + 7) x.rank)

    pub long_hit : 11 * j + 10 < length with_hit
    long_hit = omega (arith, long_rank, length-set with_rank (11 * j + 8) x.hit)

    pub long_miss : 11 * j + 10 < length with_miss
    long_miss = omega (arith, long_hit, length-set with_hit (11 * j + 9) x.miss)

    column_is : get_or with_certain (11 * j) 0 ≡ x.column
    column_is =
        get_or-set_other with_miss (11 * j + 10) (11 * j) x.certain 0 (λ e. omega (arith, e))
        ∙ get_or-set_other with_hit (11 * j + 9) (11 * j) x.miss 0 (λ e. omega (arith, e))
        ∙ get_or-set_other with_rank (11 * j + 8) (11 * j) x.hit 0 (λ e. omega (arith, e))
        ∙ get_or-set_other with_fits (11 * j + 7) (11 * j) x.rank 0 (λ e. omega (arith, e))
        ∙ get_or-set_other with_size (11 * j + 6) (11 * j) x.fits 0 (λ e. omega (arith, e))
        ∙ get_or-set_other with_place_lem (11 * j + 5) (11 * j) x.size 0 (λ e. omega (arith, e))
        ∙ get_or-set_other with_sign (11 * j + 4) (11 * j) x.place 0 (λ e. omega (arith, e))
        ∙ get_or-set_other with_operator (11 * j + 3) (11 * j) x.sign 0 (λ e. omega (arith, e))
        ∙ get_or-set_other with_kind (11 * j + 2) (11 * j) x.operator 0 (λ e. omega (arith, e))
        ∙ get_or-set_other with_column (11 * j + 1) (11 * j) x.kind 0 (λ e. omega (arith, e))
        ∙ get_or-set_same ws (11 * j) x.column 0 (omega (arith, l))

    kind_is : get_or with_certain (11 * j + 1) 0 ≡ x.kind
    kind_is =
        get_or-set_other with_miss (11 * j + 10) (11 * j + 1) x.certain 0 (λ e. omega (arith, e))
        ∙ get_or-set_other with_hit (11 * j + 9) (11 * j + 1) x.miss 0 (λ e. omega (arith, e))
        ∙ get_or-set_other with_rank (11 * j + 8) (11 * j + 1) x.hit 0 (λ e. omega (arith, e))
        ∙ get_or-set_other with_fits (11 * j + 7) (11 * j + 1) x.rank 0 (λ e. omega (arith, e))
        ∙ get_or-set_other with_size (11 * j + 6) (11 * j + 1) x.fits 0 (λ e. omega (arith, e))
        ∙ get_or-set_other with_place_lem (11 * j + 5) (11 * j + 1) x.size 0 (λ e. omega (arith, e))
        ∙ get_or-set_other with_sign (11 * j + 4) (11 * j + 1) x.place 0 (λ e. omega (arith, e))
        ∙ get_or-set_other with_operator (11 * j + 3) (11 * j + 1) x.sign 0 (λ e. omega (arith, e))
        ∙ get_or-set_other with_kind (11 * j + 2) (11 * j + 1) x.operator 0 (λ e. omega (arith, e))
        ∙ get_or-set_same with_column (11 * j + 1) x.kind 0 (omega (arith, long_column))

    operator_is : get_or with_certain (11 * j + 2) 0 ≡ x.operator
    operator_is =
        get_or-set_other with_miss (11 * j + 10) (11 * j + 2) x.certain 0 (λ e. omega (arith, e))
        ∙ get_or-set_other with_hit (11 * j + 9) (11 * j + 2) x.miss 0 (λ e. omega (arith, e))
        ∙ get_or-set_other with_rank (11 * j + 8) (11 * j + 2) x.hit 0 (λ e. omega (arith, e))
        ∙ get_or-set_other with_fits (11 * j + 7) (11 * j + 2) x.rank 0 (λ e. omega (arith, e))
        ∙ get_or-set_other with_size (11 * j + 6) (11 * j + 2) x.fits 0 (λ e. omega (arith, e))
        ∙ get_or-set_other with_place_lem (11 * j + 5) (11 * j + 2) x.size 0 (λ e. omega (arith, e))
        ∙ get_or-set_other with_sign (11 * j + 4) (11 * j + 2) x.place 0 (λ e. omega (arith, e))
        ∙ get_or-set_other with_operator (11 * j + 3) (11 * j + 2) x.sign 0 (λ e. omega (arith, e))
        ∙ get_or-set_same with_kind (11 * j + 2) x.operator 0 (omega (arith, long_kind))

    sign_is : get_or with_certain (11 * j + 3) 0 ≡ x.sign
    sign_is =
        get_or-set_other with_miss (11 * j + 10) (11 * j + 3) x.certain 0 (λ e. omega (arith, e))
        ∙ get_or-set_other with_hit (11 * j + 9) (11 * j + 3) x.miss 0 (λ e. omega (arith, e))
        ∙ get_or-set_other with_rank (11 * j + 8) (11 * j + 3) x.hit 0 (λ e. omega (arith, e))
        ∙ get_or-set_other with_fits (11 * j + 7) (11 * j + 3) x.rank 0 (λ e. omega (arith, e))
        ∙ get_or-set_other with_size (11 * j + 6) (11 * j + 3) x.fits 0 (λ e. omega (arith, e))
        ∙ get_or-set_other with_place_lem (11 * j + 5) (11 * j + 3) x.size 0 (λ e. omega (arith, e))
        ∙ get_or-set_other with_sign (11 * j + 4) (11 * j + 3) x.place 0 (λ e. omega (arith, e))
        ∙ get_or-set_same with_operator (11 * j + 3) x.sign 0 (omega (arith, long_operator))

    place_is : get_or with_certain (11 * j + 4) 0 ≡ x.place
    place_is =
        get_or-set_other with_miss (11 * j + 10) (11 * j + 4) x.certain 0 (λ e. omega (arith, e))
        ∙ get_or-set_other with_hit (11 * j + 9) (11 * j + 4) x.miss 0 (λ e. omega (arith, e))
        ∙ get_or-set_other with_rank (11 * j + 8) (11 * j + 4) x.hit 0 (λ e. omega (arith, e))
        ∙ get_or-set_other with_fits (11 * j + 7) (11 * j + 4) x.rank 0 (λ e. omega (arith, e))
        ∙ get_or-set_other with_size (11 * j + 6) (11 * j + 4) x.fits 0 (λ e. omega (arith, e))
        ∙ get_or-set_other with_place_lem (11 * j + 5) (11 * j + 4) x.size 0 (λ e. omega (arith, e))
        ∙ get_or-set_same with_sign (11 * j + 4) x.place 0 (omega (arith, long_sign))

    size_is : get_or with_certain (11 * j + 5) 0 ≡ x.size
    size_is =
        get_or-set_other with_miss (11 * j + 10) (11 * j + 5) x.certain 0 (λ e. omega (arith, e))
        ∙ get_or-set_other with_hit (11 * j + 9) (11 * j + 5) x.miss 0 (λ e. omega (arith, e))
        ∙ get_or-set_other with_rank (11 * j + 8) (11 * j + 5) x.hit 0 (λ e. omega (arith, e))
        ∙ get_or-set_other with_fits (11 * j + 7) (11 * j + 5) x.rank 0 (λ e. omega (arith, e))
        ∙ get_or-set_other with_size (11 * j + 6) (11 * j + 5) x.fits 0 (λ e. omega (arith, e))
        ∙ get_or-set_same with_place_lem (11 * j + 5) x.size 0 (omega (arith, long_place))

    fits_is : get_or with_certain (11 * j + 6) 0 ≡ x.fits
    fits_is =
        get_or-set_other with_miss (11 * j + 10) (11 * j + 6) x.certain 0 (λ e. omega (arith, e))
        ∙ get_or-set_other with_hit (11 * j + 9) (11 * j + 6) x.miss 0 (λ e. omega (arith, e))
        ∙ get_or-set_other with_rank (11 * j + 8) (11 * j + 6) x.hit 0 (λ e. omega (arith, e))
        ∙ get_or-set_other with_fits (11 * j + 7) (11 * j + 6) x.rank 0 (λ e. omega (arith, e))
        ∙ get_or-set_same with_size (11 * j + 6) x.fits 0 (omega (arith, long_size))

    rank_is : get_or with_certain (11 * j + 7) 0 ≡ x.rank
    rank_is =
        get_or-set_other with_miss (11 * j + 10) (11 * j + 7) x.certain 0 (λ e. omega (arith, e))
        ∙ get_or-set_other with_hit (11 * j + 9) (11 * j + 7) x.miss 0 (λ e. omega (arith, e))
        ∙ get_or-set_other with_rank (11 * j + 8) (11 * j + 7) x.hit 0 (λ e. omega (arith, e))
        ∙ get_or-set_same with_fits (11 * j + 7) x.rank 0 (omega (arith, long_fits))

    hit_is : get_or with_certain (11 * j + 8) 0 ≡ x.hit
    hit_is =
        get_or-set_other with_miss (11 * j + 10) (11 * j + 8) x.certain 0 (λ e. omega (arith, e))
        ∙ get_or-set_other with_hit (11 * j + 9) (11 * j + 8) x.miss 0 (λ e. omega (arith, e))
        ∙ get_or-set_same with_rank (11 * j + 8) x.hit 0 (omega (arith, long_rank))

    miss_is : get_or with_certain (11 * j + 9) 0 ≡ x.miss
    miss_is =
        get_or-set_other with_miss (11 * j + 10) (11 * j + 9) x.certain 0 (λ e. omega (arith, e))
        ∙ get_or-set_same with_hit (11 * j + 9) x.miss 0 (omega (arith, long_hit))

    certain_is : get_or with_certain (11 * j + 10) 0 ≡ x.certain
    certain_is = get_or-set_same with_miss (11 * j + 10) x.certain 0 (omega (arith, long_miss))

    cell_kept : (p : ℕ) → p < 11 * j → get_or with_certain p 0 ≡ get_or ws p 0
    cell_kept p h =
        get_or-set_other with_miss (11 * j + 10) p x.certain 0 (λ e. omega (arith, h, e))
        ∙ get_or-set_other with_hit (11 * j + 9) p x.miss 0 (λ e. omega (arith, h, e))
        ∙ get_or-set_other with_rank (11 * j + 8) p x.hit 0 (λ e. omega (arith, h, e))
        ∙ get_or-set_other with_fits (11 * j + 7) p x.rank 0 (λ e. omega (arith, h, e))
        ∙ get_or-set_other with_size (11 * j + 6) p x.fits 0 (λ e. omega (arith, h, e))
        ∙ get_or-set_other with_place_lem (11 * j + 5) p x.size 0 (λ e. omega (arith, h, e))
        ∙ get_or-set_other with_sign (11 * j + 4) p x.place 0 (λ e. omega (arith, h, e))
        ∙ get_or-set_other with_operator (11 * j + 3) p x.sign 0 (λ e. omega (arith, h, e))
        ∙ get_or-set_other with_kind (11 * j + 2) p x.operator 0 (λ e. omega (arith, h, e))
        ∙ get_or-set_other with_column (11 * j + 1) p x.kind 0 (λ e. omega (arith, h, e))
        ∙ get_or-set_other ws (11 * j) p x.column 0 (λ e. omega (arith, h, e))

    pub test_stored : TestStored ws with_certain j x
    test_stored = record {
      is = λ i. record { column = column_is i; kind = kind_is i; operator = operator_is i; sign = sign_is i; place = place_is i; size = size_is i; fits = fits_is i; rank = rank_is i; hit = hit_is i; miss = miss_is i; certain = certain_is i };
      kept = λ k h i. record { column = cell_kept (11 * k) (omega (arith, h)) i; kind = cell_kept (11 * k + 1) (omega (arith, h)) i; operator = cell_kept (11 * k + 2) (omega (arith, h)) i; sign = cell_kept (11 * k + 3) (omega (arith, h)) i; place = cell_kept (11 * k + 4) (omega (arith, h)) i; size = cell_kept (11 * k + 5) (omega (arith, h)) i; fits = cell_kept (11 * k + 6) (omega (arith, h)) i; rank = cell_kept (11 * k + 7) (omega (arith, h)) i; hit = cell_kept (11 * k + 8) (omega (arith, h)) i; miss = cell_kept (11 * k + 9) (omega (arith, h)) i; certain = cell_kept (11 * k + 10) (omega (arith, h)) i };
    }

-- what is read of comparison j stands there, and of those before it what stood there
module _ (ts : List ℕ) (g : Comparisons) (s ops cs trues falses : List ℕ) (flips : List Bool) where
  -- the comparison x is read as comparison j is to be
  abbrev pub Reads : ℕ → TestRead → Type 0
  Reads j x = TestOf ts g s (get_or ops j 0) (get_or cs (g.behind + j) 0) (get_or trues j 0) (get_or falses j 0) (mode_under (mode_by g.certain) (get_or flips j false)) x

  -- the first m comparisons are read
  pub record ReadTo (ws : List ℕ) (m : ℕ) : Type 0 where
    pub each : (j : ℕ) → j < m → Reads j (test_in ws j)

  pub read_none : (ws : List ℕ) → ReadTo ws 0
  read_none ws = record { each = λ j l. absurd (omega (arith, l)) }

  pub read_more : (ws ws' : List ℕ) (j : ℕ) (x : TestRead) → ReadTo ws j → Reads j x → TestStored ws ws' j x → ReadTo ws' (j + 1)
  read_more ws ws' j x old new put = record {
    each = below_more (λ i. Reads i (test_in ws' i)) j
        (λ i m. subst (Reads i) (sym (put.kept i m)) (old.each i m))
        (subst (Reads j) (sym put.is) new);
  }

-- ---- the comparisons of a row or a pair, one after the other

-- where to go on behind a comparison x that is the stored one y
pub next_by : (vs : List Value) (s : List ℕ) (x y : TestRead) → x ≡ y → (b c : Bool) → b ≡ test_holds vs s x → b ≡ c → cond c x.hit x.miss ≡ cond (test_holds vs s y) y.hit y.miss
next_by vs s x y e b c h k = λ i. cond ((sym k ∙ h ∙ ap (test_holds vs s) e) i) (e i).hit (e i).miss

module _ (vs : List Value) (s rs : List ℕ) (m : ℕ) (mode : Mode) (o : Option (Cond Comparison)) (tested : Tested s rs m mode o) where
  -- comparison j, read under an odd number of `not`s or an even one
  abbrev truth : Bool → ℕ → Bool
  truth odd j = meets_in (mode_under mode odd) (comparison_by s (test_in rs j)) (get_or vs (test_in rs j).column [])

  -- the comparisons from number j on come to what all of them come to
  abbrev pub Goes : ℕ → Type 0
  Goes j = all_steps truth tested.trues tested.falses tested.flips m ≡ from_step truth tested.trues tested.falses tested.flips m j j

  pub goes_first : Goes 0
  goes_first = step_first truth tested.trues tested.falses tested.flips m

  module _ (least : 0 < m) where
    ends : (t : ℕ) → all_steps truth tested.trues tested.falses tested.flips m ≡ t → eqb t 64 ≡ matches mode o vs
    ends t e = ap (λ (n : ℕ). eqb n 64) (sym e) ∙ tested.runs least truth vs (λ odd j l. refl)

    pub goes_end : (j : ℕ) → m ≤ j → Goes j → eqb j 64 ≡ matches mode o vs
    goes_end j l h = ends j (h ∙ step_end truth tested.trues tested.falses tested.flips m j l)

  module _ (j n : ℕ) (l : j < m) (e : n ≡ cond (test_holds vs s (test_in rs j)) (test_in rs j).hit (test_in rs j).miss) where
    asked : test_holds vs s (test_in rs j) ≡ truth (get_or tested.flips j false) j
    unfolding test_holds
    asked = ap (λ (k : Mode). meets_in k (comparison_by s (test_in rs j)) (get_or vs (test_in rs j).column [])) (tested.modes j l)

    told : n ≡ cond (truth (get_or tested.flips j false) j) (get_or tested.trues j 0) (get_or tested.falses j 0)
    told = e ∙ (λ i. cond (asked i) (tested.hit j l i) (tested.miss j l i))

    pub goes_on : j < n → Goes j → Goes n
    goes_on k h = h ∙ step_on truth tested.trues tested.falses tested.flips m j n l told k

    pub goes_back : n ≤ j → Goes j → eqb n 64 ≡ matches mode o vs
    goes_back k h = ends (omega (arith, l)) n (h ∙ step_back truth tested.trues tested.falses tested.flips m j n l told k)

-- ---- the program

pub no_program : (way : Naming) (s : List ℕ) (test : Test) → test ≡ tests.Always → (ts fs : List ℕ) (os : List Bool) → ProgramOf way s test ts fs os
no_program way s test e ts fs os = record { result = None; is = λ at n w. let z : ◌≡◌ {A = ℕ} 0 1 = cc in absurd (omega (arith, z)) }

pub program_when : (way : Naming) (s : List ℕ) (test : Test) (at n : ℕ) → test ≡ tests.When at n → (r : prelude.Option (ℕ × ℕ)) (ts fs : List ℕ) (os : List Bool) → ProgrammedBy way s at r ts fs os → ProgramOf way s test ts fs os
program_when way s test at n e r ts fs os p = record { result = r; is = λ i k w. subst (λ (z : ℕ). ProgrammedBy way s z r ts fs os) (place_same at i n k (sym e ∙ w)) p }
  where
    place_same : (a b k l : ℕ) → tests.When a k ≡ tests.When b l → a ≡ b
    place_same a b k l q = cc
