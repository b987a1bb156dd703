-- Sure and possible (02, Q-12): the tests on the two ends say what they are to say of the numbers between them; values that are no
-- ranges; and choices of numbers. Assumes nothing.
use Prim.Native.Nat.{◌≤◌, ℕ}
use borrow.Author.Tests.{eq-eqb, eqb-false, eqb-true, le-leb, leb-true, lt-ltb, ltb-true, ne_eqb, not-true}
use lib.Dec.{eqb, leb}
use mathlib.Core.Bool.{Bool, ◌&&◌, false, not, true}
use mathlib.Core.Logic.{⊎_elim}
use mathlib.Core.Option.{Option, get_or, none, some}
use mathlib.Core.Path.{◌∙◌, ◌≡◌, ap, refl, sym}
use native.Mathlib.Omega.{arith}
use Rattle.condition.proofs.TwoLaws.{holds_two_same, two_agree, two_more}
use Rattle.condition.specs.Comparison.{Comparison, meets, ranks_meet, values_meet}
use Rattle.condition.specs.Cond.{Cond, comparisons, holds, holds_two, negate}
use Rattle.condition.specs.Kinds.{Kind, Op, dates, eq, ge, gt, le, lt, names, ne, numbers}
use Rattle.condition.specs.Ranges.{Chosen, Mode, ends_of, meets_in, other, passes_in, point, possible, range_meets, sure, values_meet_in}
use Rattle.lists.proofs.Tests.{and_both, and_left, and_right, both, decide, never, true_not_false}
use Rattle.lists.specs.Lists.{all_of, or_zero, there}
use Rattle.text.specs.Amounts.{Range, is_range, range_of}
use Rattle.text.specs.Numbers.{Value, rank}

-- n stands from low to high
abbrev pub Between : ℕ → ℕ → ℕ → Type 0
Between low high n = (low ≤ n) × (n ≤ high)

-- ---- what the tests on the ends mean

module _ (low high v : ℕ) where
  -- the two ends are v
  ends_eq : (eqb low v && eqb high v) ≡ true → (low ≡ v) × (high ≡ v)
  ends_eq h = (eqb-true low v (and_left (eqb low v) (eqb high v) h), eqb-true high v (and_right (eqb low v) (eqb high v) h))

  -- v stands between them
  inside : (leb low v && leb v high) ≡ true → Between low high v
  inside h = (leb-true low v (and_left (leb low v) (leb v high) h), leb-true v high (and_right (leb low v) (leb v high) h))

  is_inside : Between low high v → (leb low v && leb v high) ≡ true
  is_inside b = and_both (leb low v) (leb v high) (le-leb low v b.0) (le-leb v high b.1)

  -- sure: every number in the range meets
  pub sure_every : (op : Op) → range_meets sure op low high v ≡ true → (n : ℕ) → Between low high n → ranks_meet op n v ≡ true
  unfolding range_meets ranks_meet
  sure_every eq h n b = let e = ends_eq h in eq-eqb n v (omega (arith, e.0, e.1, b.0, b.1))
  sure_every ne h n b = ap not (ne_eqb n v (λ e. true_not_false (is_inside (omega (arith, b.0, e), omega (arith, b.1, e))) (not-true _ h)))
  sure_every lt h n b = lt-ltb n v (omega (arith, ltb-true high v h, b.1))
  sure_every le h n b = le-leb n v (omega (arith, leb-true high v h, b.1))
  sure_every gt h n b = lt-ltb v n (omega (arith, ltb-true v low h, b.0))
  sure_every ge h n b = le-leb v n (omega (arith, leb-true v low h, b.0))

  pub every_sure : (op : Op) → low ≤ high → ((n : ℕ) → Between low high n → ranks_meet op n v ≡ true) → range_meets sure op low high v ≡ true
  unfolding range_meets ranks_meet
  every_sure eq l all = and_both (eqb low v) (eqb high v) (all low (omega arith, l)) (all high (l, omega arith))
  every_sure ne l all = ap not (never (leb low v && leb v high) (λ e. eqb-false v v (not-true _ (all v (inside e))) refl))
  every_sure lt l all = all high (l, omega arith)
  every_sure le l all = all high (l, omega arith)
  every_sure gt l all = all low (omega arith, l)
  every_sure ge l all = all low (omega arith, l)

  -- possible: some number in the range meets
  pub some_possible : (op : Op) (n : ℕ) → Between low high n → ranks_meet op n v ≡ true → range_meets possible op low high v ≡ true
  unfolding range_meets ranks_meet
  some_possible eq n b h = let e = eqb-true n v h in is_inside (omega (arith, b.0, e), omega (arith, b.1, e))
  some_possible ne n b h = ap not (never (eqb low v && eqb high v) (λ e. let x = ends_eq e in eqb-false n v (not-true _ h) (omega (arith, x.0, x.1, b.0, b.1))))
  some_possible lt n b h = lt-ltb low v (omega (arith, ltb-true n v h, b.0))
  some_possible le n b h = le-leb low v (omega (arith, leb-true n v h, b.0))
  some_possible gt n b h = lt-ltb v high (omega (arith, ltb-true v n h, b.1))
  some_possible ge n b h = le-leb v high (omega (arith, leb-true v n h, b.1))

  pub possible_some : (op : Op) → low ≤ high → range_meets possible op low high v ≡ true → (n : ℕ) × Between low high n × (ranks_meet op n v ≡ true)
  unfolding range_meets ranks_meet
  possible_some eq l h = (v, inside h, eq-eqb v v refl)
  possible_some ne l h =
      ⊎_elim
      (λ e. (high, (l, omega arith), ap not (never (eqb high v) (λ g. true_not_false (and_both (eqb low v) (eqb high v) e g) (not-true _ h)))))
      (λ e. (low, (omega arith, l), ap not e))
      (decide (eqb low v))
  possible_some lt l h = (low, (omega arith, l), h)
  possible_some le l h = (low, (omega arith, l), h)
  possible_some gt l h = (high, (l, omega arith), h)
  possible_some ge l h = (high, (l, omega arith), h)

-- a range of one number is that number, in either mode
pub point_meets : (m : Mode) (op : Op) (n v : ℕ) → range_meets m op n n v ≡ ranks_meet op n v
unfolding range_meets ranks_meet
point_meets m op n v = go m op
  where
    twice : (b : Bool) → (b && b) ≡ b
    twice b = both (b && b) b (λ h. and_left b b h) (λ h. and_both b b h h)

    same : (leb n v && leb v n) ≡ eqb n v
    same = both (leb n v && leb v n) (eqb n v) (λ h. let b = inside n n v h in eq-eqb n v (omega (arith, b.0, b.1))) (λ h. let e = eqb-true n v h in is_inside n n v (omega (arith, e), omega (arith, e)))

    go : (m : Mode) (op : Op) → range_meets m op n n v ≡ ranks_meet op n v
    go sure eq = twice (eqb n v)
    go sure ne = ap not same
    go sure lt = refl
    go sure le = refl
    go sure gt = refl
    go sure ge = refl
    go possible eq = same
    go possible ne = ap not (twice (eqb n v))
    go possible lt = refl
    go possible le = refl
    go possible gt = refl
    go possible ge = refl

-- ---- values

-- a value that is no range has its rank for both ends
pub plain_ends : (v : Value) → is_range v ≡ false → ends_of v ≡ point (or_zero (rank v))
unfolding ends_of is_range there
plain_ends v h = go (range_of v) refl h
  where
    go : (o : Option Range) → range_of v ≡ o → there o ≡ false → get_or o (point (or_zero (rank v))) ≡ point (or_zero (rank v))
    go none e k = refl
    go (some r) e k = true_not_false refl k

-- a range has its own
pub range_ends : (v : Value) (r : Range) → range_of v ≡ some r → ends_of v ≡ r
unfolding ends_of
range_ends v r e = ap (λ (o : Option Range). get_or o (point (or_zero (rank v)))) e

-- a value whose ends are equal is compared by that number, in either mode
pub ends_meet : (m : Mode) (op : Op) (v w : Value) (n : ℕ) → ends_of v ≡ point n → values_meet_in m numbers op v w ≡ ranks_meet op n (or_zero (rank w))
unfolding values_meet_in point
ends_meet m op v w n e = ap (λ (r : Range). range_meets m op r.low r.high (or_zero (rank w))) e ∙ point_meets m op n (or_zero (rank w))

-- PLAIN: a value that is no range is compared as `meets` says, in either mode
pub meets_plain : (m : Mode) (c : Comparison) (v : Value) → is_range v ≡ false → meets_in m c v ≡ meets c v
unfolding meets_in values_meet_in meets values_meet
meets_plain m c v h = go c.kind
  where
    go : (k : Kind) → values_meet_in m k c.op v c.value ≡ values_meet k c.op v c.value
    go numbers = ends_meet m c.op v c.value (or_zero (rank v)) (plain_ends v h)
    go names = refl
    go dates = refl

-- ---- conditions

-- `(not c)` is sure if c isn't possible, possible if c isn't sure
pub not_in : (m : Mode) (values : ℕ → Value) (c : Cond Comparison) → passes_in m values (negate c) ≡ not (passes_in (other m) values c)
unfolding passes_in holds_two other
not_in sure values c = refl
not_in possible values c = refl

-- POINTS: where no value that the condition compares is a range, sure and possible are `holds`
pub points : (m : Mode) (values : ℕ → Value) (c : Cond Comparison) → all_of (λ t. not (is_range (values t.of))) (comparisons c) ≡ true → passes_in m values c ≡ holds (λ t. meets t (values t.of)) c
unfolding passes_in
points m values c h =
    two_agree (λ t. not (is_range (values t.of)))
    (λ t. meets_in m t (values t.of)) (λ t. meets_in (other m) t (values t.of)) (λ t. meets t (values t.of)) (λ t. meets t (values t.of))
    (λ t k. meets_plain m t (values t.of) (not-true _ k)) (λ t k. meets_plain (other m) t (values t.of) (not-true _ k))
    c h
    ∙ holds_two_same (λ t. meets t (values t.of)) c

-- ---- choices

-- a value that is compared as a name or as a date is no range: so it is in an accepted document
unfoldable pub fits_mode : Kind → Value → Bool
fits_mode numbers v = true
fits_mode names v = not (is_range v)
fits_mode dates v = not (is_range v)

module _ (c : Comparison) (v w : Value) (choice : Chosen v w) where
  -- no range: the choice is the value itself, which is compared as before
  itself : range_of v ≡ none → (m : Mode) → meets_in m c v ≡ meets c w
  unfolding is_range there
  itself e m = let h : is_range v ≡ false = ap there e in meets_plain m c v h ∙ ap (meets c) (sym (choice.itself h))

  -- a range: the rank of the choice stands from one end to the other
  ranked : (r : Range) → range_of v ≡ some r → Between (ends_of v).low (ends_of v).high (or_zero (rank w))
  unfolding or_zero
  ranked r e =
      let x = choice.within r e in
      let n : or_zero (rank w) ≡ x.0 = ap (λ (o : Option ℕ). get_or o 0) x.1 in
      let s = range_ends v r e in
      (omega (arith, n, ap (λ (q : Range). q.low) s, x.2), omega (arith, n, ap (λ (q : Range). q.high) s, x.3))

  no_range_lem : {A : Type 0} (r : Range) → range_of v ≡ some r → not (is_range v) ≡ true → A
  unfolding is_range there
  no_range_lem r e f = true_not_false (ap there e) (not-true (is_range v) f)

  -- what is sure of a value holds for each choice
  pub sure_chosen : fits_mode c.kind v ≡ true → meets_in sure c v ≡ true → meets c w ≡ true
  unfolding meets_in meets
  sure_chosen f h = go (range_of v) refl
    where
      ranges : (r : Range) → range_of v ≡ some r → (k : Kind) → fits_mode k v ≡ true → values_meet_in sure k c.op v c.value ≡ true → values_meet k c.op w c.value ≡ true
      ranges r e numbers f h = unfold values_meet_in values_meet in sure_every (ends_of v).low (ends_of v).high (or_zero (rank c.value)) c.op h (or_zero (rank w)) (ranked r e)
      ranges r e names f h = unfold fits_mode in no_range_lem r e f
      ranges r e dates f h = unfold fits_mode in no_range_lem r e f

      go : (o : Option Range) → range_of v ≡ o → values_meet c.kind c.op w c.value ≡ true
      go none e = sym (unfold meets_in meets in itself e sure) ∙ h
      go (some r) e = ranges r e c.kind f h

  -- what holds for some choice is possible
  pub chosen_possible : fits_mode c.kind v ≡ true → meets c w ≡ true → meets_in possible c v ≡ true
  unfolding meets_in meets
  chosen_possible f h = go (range_of v) refl
    where
      ranges : (r : Range) → range_of v ≡ some r → (k : Kind) → fits_mode k v ≡ true → values_meet k c.op w c.value ≡ true → values_meet_in possible k c.op v c.value ≡ true
      ranges r e numbers f h = unfold values_meet_in values_meet in some_possible (ends_of v).low (ends_of v).high (or_zero (rank c.value)) c.op (or_zero (rank w)) (ranked r e) h
      ranges r e names f h = unfold fits_mode in no_range_lem r e f
      ranges r e dates f h = unfold fits_mode in no_range_lem r e f

      go : (o : Option Range) → range_of v ≡ o → values_meet_in possible c.kind c.op v c.value ≡ true
      go none e = (unfold meets_in meets in itself e possible) ∙ h
      go (some r) e = ranges r e c.kind f h

-- CHOICES: a row that sure passes is passed for every choice of numbers, and a row that some choice passes is passed by possible
module _ (values chosen : ℕ → Value) (choice : (i : ℕ) → Chosen (values i) (chosen i)) (c : Cond Comparison) (fits : all_of (λ t. fits_mode t.kind (values t.of)) (comparisons c) ≡ true) where
  pub sure_passes : passes_in sure values c ≡ true → holds (λ t. meets t (chosen t.of)) c ≡ true
  unfolding passes_in other
  sure_passes h =
      sym (holds_two_same (λ t. meets t (chosen t.of)) c)
      ∙ two_more (λ t. fits_mode t.kind (values t.of))
      (λ t. meets_in sure t (values t.of))
      (λ t. meets_in possible t (values t.of))
      (λ t. meets t (chosen t.of))
      (λ t. meets t (chosen t.of))
      (λ t f e. sure_chosen t (values t.of) (chosen t.of) (choice t.of) f e)
      (λ t f e. chosen_possible t (values t.of) (chosen t.of) (choice t.of) f e)
      c fits h

  pub passes_possible : holds (λ t. meets t (chosen t.of)) c ≡ true → passes_in possible values c ≡ true
  unfolding passes_in other
  passes_possible h =
      two_more (λ t. fits_mode t.kind (values t.of))
      (λ t. meets t (chosen t.of))
      (λ t. meets t (chosen t.of))
      (λ t. meets_in possible t (values t.of))
      (λ t. meets_in sure t (values t.of))
      (λ t f e. chosen_possible t (values t.of) (chosen t.of) (choice t.of) f e)
      (λ t f e. sure_chosen t (values t.of) (chosen t.of) (choice t.of) f e)
      c fits
      (holds_two_same (λ t. meets t (chosen t.of)) c ∙ h)
