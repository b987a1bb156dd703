-- Which conditions of conditional roles hold: a comparison by the clock and by the user's values, and a condition by its comparisons.
-- Assumes nothing.
use Prim.Native.Nat.{◌+◌, ◌-◌, ◌<◌, ◌^◌, ◌≤◌, suc, zero, ℕ}
use borrow.Author.Tests.{eqb-false, eqb-true, leb-true}
use lib.Dec.{eqb, leb}
use lib.ListN.{get_or, get_elem?, length, length-map, set, take}
use lib.Seq.{get_or-set_other, get_or-set_same}
use mathlib.Core.Bool.{Bool, false, true}
use mathlib.Core.List.{List, [], ◌∷◌, map}
use mathlib.Core.Logic.{⊎_elim}
use mathlib.Core.Option
use mathlib.Core.Option.{none-ne-some, some-injective, bind, none, some}
use mathlib.Core.Path.{◌∙◌, ◌≡◌, ap, refl, sym}
use native.Mathlib.Omega.{arith}
use Rattle.belonging.specs.Held.{Held, comparison_holds, condition_holds, words_meet}
use Rattle.belonging.specs.Values.{Values, value_given_at}
use Rattle.calendar.proofs.MonthLaws.{days_in_few}
use Rattle.calendar.specs.Calendar.{days_in}
use Rattle.condition.proofs.CondLaws.{comparisons_map, holds_map}
use Rattle.condition.proofs.ReadLaws.{held_is, placed_is}
use Rattle.condition.specs.Answers.{Placed, compared_at, comparisons_at, held_read, operator_of}
use Rattle.condition.specs.Comparison.{meets, ranks_meet, values_meet}
use Rattle.condition.specs.Cond.{Cond, comparisons, holds}
use Rattle.condition.specs.CondForm.{Compared, condition_in_form}
use Rattle.std.specs.Prelude.{Option}
use Rattle.condition.specs.Kinds.{Kind, Op, numbers}
use Rattle.document.specs.Lookup.{attribute_kind, attribute_named, attribute_of}
use Rattle.document.specs.Meaning.{attribute_comparison}
use Rattle.document.specs.Policy.{Attribute, CondRole, Policy, User}
use Rattle.principals.proofs.IndexLaws.{attributes_length}
use Rattle.workspace.proofs.TabulatedLaws.{tabulated_at, tabulated_there}
use Rattle.principals.specs.Attributes.{Attributes}
use Rattle.workspace.specs.Cells.{line_in}
use Rattle.principals.specs.CondRoles.{CondRoles, attributes_known, cond_role_end_in, cond_role_in, cond_role_place_in, cond_role_start_in, condition_in, condition_in_line, condition_read, condition_reads, reads_in}
use Rattle.lists.proofs.ListLaws.{all_here, find_index_found, holds_of_some, map_map, there_some}
use Rattle.lists.proofs.Tests.{and_left, and_right, decide}
use Rattle.lists.specs.Lists.{all_of, holds_of, or_zero, there}
use Rattle.query.specs.Authority.{Clock, attribute_meets, clock_number, in_range, user_value}
use Rattle.text.specs.Bytes.{within}
use Rattle.text.specs.Numbers.{Value, rank, rank_of}
use Rattle.text.specs.Reader.{Left, from}
use Rattle.text.specs.Walking.{next_word}
use Rattle.text.specs.Words.{Word, is_called, word_at, word_of, written_at}

-- ---- the clock

module _ (c : Clock) where
  pub clock_year : (n m : ℕ) → n ≡ 0 → clock_number c n ≡ some m → c.year ≡ m
  unfolding clock_number
  clock_year n m e f = some-injective c.year m (sym (ap (λ i. get_elem? (c.year ∷ c.day ∷ c.hour ∷ []) i) e) ∙ f)

  pub clock_day : (n m : ℕ) → n ≡ 1 → clock_number c n ≡ some m → c.day ≡ m
  unfolding clock_number
  clock_day n m e f = some-injective c.day m (sym (ap (λ i. get_elem? (c.year ∷ c.day ∷ c.hour ∷ []) i) e) ∙ f)

  pub clock_hour : (n m : ℕ) → (n ≡ 0 → ⊥) → (n ≡ 1 → ⊥) → clock_number c n ≡ some m → c.hour ≡ m
  unfolding clock_number
  clock_hour zero m a b f = absurd (a refl)
  clock_hour (suc zero) m a b f = absurd (b refl)
  clock_hour (suc (suc zero)) m a b f = some-injective c.hour m f
  clock_hour (suc (suc (suc n))) m a b f = absurd (none-ne-some m f)

  -- the clock's numbers are small
  in_year : in_range c ≡ true → c.year ≤ 9999
  unfolding in_range
  in_year h = leb-true c.year 9999 (and_right (leb 1 c.year) (leb c.year 9999) (and_left (within 1 9999 c.year) _ h))

  in_days : in_range c ≡ true → c.day ≤ days_in c.year
  unfolding in_range
  in_days h = leb-true c.day (days_in c.year) (and_right (leb 1 c.day) (leb c.day (days_in c.year)) (and_left (within 1 (days_in c.year) c.day) (leb c.hour 23) (and_right (within 1 9999 c.year) _ h)))

  in_hours : in_range c ≡ true → c.hour ≤ 23
  unfolding in_range
  in_hours h = leb-true c.hour 23 (and_right (within 1 (days_in c.year) c.day) (leb c.hour 23) (and_right (within 1 9999 c.year) _ h))

  -- an attribute of the clock has a number, and it is small
  pub clock_there : (n : ℕ) → n < 3 → in_range c ≡ true → (m : ℕ) × (clock_number c n ≡ some m) × (m < 2 ^ 63)
  unfolding clock_number
  clock_there zero l h = (c.year, refl, omega (arith, in_year h))
  clock_there (suc zero) l h = (c.day, refl, omega (arith, in_days h, days_in_few c.year))
  clock_there (suc (suc zero)) l h = (c.hour, refl, omega (arith, in_hours h))
  clock_there (suc (suc (suc n))) l h = absurd (omega (arith, l))

  clock_none : (n : ℕ) → 3 ≤ n → clock_number c n ≡ none
  unfolding clock_number
  clock_none zero l = absurd (omega (arith, l))
  clock_none (suc zero) l = absurd (omega (arith, l))
  clock_none (suc (suc zero)) l = absurd (omega (arith, l))
  clock_none (suc (suc (suc n))) l = refl

-- ---- the user's values

module _ (line places : List ℕ) (u : User) (h : Values line u.values places) (n : ℕ) (l : n < 35) where
  user_place : user_value u n ≡ value_given_at line (get_or places n 0)
  unfolding user_value
  user_place = sym (h.are n l)

  pub user_none : (f : Value → Bool) → get_or places n 0 ≡ 0 → false ≡ holds_of f (user_value u n)
  unfolding value_given_at holds_of
  user_none f e = sym (ap (holds_of f) (user_place ∙ ap (value_given_at line) e))

  pub user_some : (f : Value → Bool) → (get_or places n 0 ≡ 0 → ⊥) → f (word_at line (get_or places n 0 - 1)) ≡ holds_of f (user_value u n)
  unfolding value_given_at holds_of
  user_some f e = sym (ap (holds_of f) (user_place ∙ ap (value_given_at line) one))
    where
      one : get_or places n 0 ≡ suc (get_or places n 0 - 1)
      one = omega (arith, e)

-- an attribute that is there has a place
pub attribute_below : (text ws : List ℕ) (k : ℕ) (xs : List Attribute) (n : ℕ) (a : Attribute) → Attributes text ws k xs → get_elem? xs n ≡ some a → n < 35
attribute_below text ws k xs n a h e = omega (arith, inside xs n a e, attributes_length h, h.few)
  where
    inside : (ys : List Attribute) (m : ℕ) (b : Attribute) → get_elem? ys m ≡ some b → m < length ys
    inside [] m b f = absurd (none-ne-some b f)
    inside (y ∷ ys) zero b f = omega arith
    inside (y ∷ ys) (suc m) b f = let r = inside ys m b f in omega (arith, r)

-- ---- one comparison

module _ (d : Policy) (c : Clock) (u : User) (op : Op) (w : Word) (v : Value) (n : ℕ) (e : n ≡ or_zero (attribute_of d w)) where
  -- an attribute of the clock
  pub meets_clock : (m : ℕ) → clock_number c n ≡ some m → ranks_meet op (rank_of m) (or_zero (rank v)) ≡ words_meet d c u op w v
  unfolding words_meet attribute_meets
  meets_clock m f = sym (ap (attribute_meets u (record { of = or_zero (attribute_of d w); kind = attribute_kind d w; op = op; value = v })) (ap (clock_number c) (sym e) ∙ f))

  -- the attribute itself
  pub attribute_there : there (attribute_of d w) ≡ true → (a : Attribute) × (get_elem? d.attributes n ≡ some a) × (attribute_kind d w ≡ a.kind)
  unfolding attribute_of attribute_kind attribute_named bind
  attribute_there t =
      let found : attribute_of d w ≡ some n = there_some (attribute_of d w) t ∙ ap some (sym e) in
      let got = holds_of_some (λ x. is_called w x.name) (get_elem? d.attributes n) (find_index_found (λ x. is_called w x.name) d.attributes n found).0 in
      (got.0, got.1, ap (λ o. Option.get_or (Option.map (λ (a : Attribute). a.kind) (bind o (get_elem? d.attributes))) numbers) found ∙ ap (λ o. Option.get_or (Option.map (λ (a : Attribute). a.kind) o) numbers) got.1)

  -- an attribute of the user
  pub meets_user : (k : Kind) → 3 ≤ n → attribute_kind d w ≡ k → holds_of (λ x. values_meet k op x v) (user_value u n) ≡ words_meet d c u op w v
  unfolding words_meet attribute_meets meets
  meets_user k l f =
      ap (λ x. holds_of (λ y. values_meet x op y v) (user_value u n)) (sym f)
      ∙ ap (λ m. holds_of (λ y. values_meet (attribute_kind d w) op y v) (user_value u m)) e
      ∙ sym (ap (attribute_meets u (record { of = or_zero (attribute_of d w); kind = attribute_kind d w; op = op; value = v })) (ap (clock_number c) (sym e) ∙ clock_none c n l))

-- the comparison whose operator stands at a place
module _ (s : List ℕ) (at name v : ℕ) (p : name ≡ next_word s at) (q : v ≡ next_word s name) where
  pub compared_known : (d : Policy) → there (attribute_of d (compared_at s at).of) ≡ true → there (attribute_of d (word_of s name)) ≡ true
  unfolding compared_at
  compared_known d h = ap (λ n. there (attribute_of d (word_of s n))) p ∙ h

  pub compared_holds : (d : Policy) (c : Clock) (u : User) (op : Op) → op ≡ operator_of (word_at s at) → words_meet d c u op (word_of s name) (written_at s v) ≡ comparison_holds d c u (compared_at s at)
  unfolding comparison_holds compared_at
  compared_holds d c u op o =
      ap (λ x. words_meet d c u x (word_of s name) (written_at s v)) o
      ∙ ap (λ n. words_meet d c u (operator_of (word_at s at)) (word_of s name) (written_at s n)) q
      ∙ ap (λ n. words_meet d c u (operator_of (word_at s at)) (word_of s n) (written_at s (next_word s n))) p

-- ---- truths in a row

-- one more is stored
pub truths_more : (f : ℕ → Bool) (ts : List Bool) (i : ℕ) (b : Bool) → i < length ts → ((j : ℕ) → j < i → get_or ts j false ≡ f j) → b ≡ f i → (j : ℕ) → j < i + 1 → get_or (set ts i b) j false ≡ f j
truths_more f ts i b m below new j l = ⊎_elim (λ e. last (eqb-true j i e)) (λ e. old (eqb-false j i e)) (decide (eqb j i))
  where
    last : j ≡ i → get_or (set ts i b) j false ≡ f j
    last e = ap (λ n. get_or (set ts i b) n false) e ∙ get_or-set_same ts i b false m ∙ new ∙ ap f (sym e)

    old : (j ≡ i → ⊥) → get_or (set ts i b) j false ≡ f j
    old apart = get_or-set_other ts i j b false apart ∙ below j (omega (arith, l, apart))

-- what is told of each place is told of all
truths_all : (g : ℕ → Bool) (ops : List ℕ) (ts : List Bool) (n : ℕ) → n ≤ length ops → n ≤ length ts → ((j : ℕ) → j < n → get_or ts j false ≡ g (get_or ops j 0)) → map g (take n ops) ≡ take n ts
truths_all g ops ts zero a b h = refl
truths_all g [] ts (suc n) a b h = absurd (omega (arith, a))
truths_all g (o ∷ ops) [] (suc n) a b h = absurd (omega (arith, b))
truths_all g (o ∷ ops) (t ∷ ts) (suc n) a b h =
    ap (λ x. x ∷ map g (take n ops)) (sym (h 0 (omega arith)))
    ∙ ap {B = List Bool} (λ r. t ∷ r) (truths_all g ops ts n (omega (arith, a)) (omega (arith, b)) (λ j l. h (suc j) (omega (arith, l))))

place_there : {A : Type 0} (g : ℕ → A) (ops : List ℕ) (n j : ℕ) → n ≤ length ops → j < n → get_elem? (map g (take n ops)) j ≡ some (g (get_or ops j 0))
place_there g ops zero j a l = absurd (omega (arith, l))
place_there g [] (suc n) j a l = absurd (omega (arith, a))
place_there g (o ∷ ops) (suc n) zero a l = refl
place_there g (o ∷ ops) (suc n) (suc j) a l = place_there g ops n j (omega (arith, a)) (omega (arith, l))

-- the attributes that the comparisons at the places name are known
pub places_known : (d : Policy) (s ops : List ℕ) (n : ℕ) → n ≤ length ops → all_of (λ x. there (attribute_of d x.of)) (map (compared_at s) (take n ops)) ≡ true
    → (j : ℕ) → j < n → there (attribute_of d (compared_at s (get_or ops j 0)).of) ≡ true
places_known d s ops n room t j m = all_here (λ (x : Compared). there (attribute_of d x.of)) (map (compared_at s) (take n ops)) t j (compared_at s (get_or ops j 0)) (place_there (compared_at s) ops n j room m)

-- the truths are those of the comparisons
pub truths_told : (d : Policy) (c : Clock) (u : User) (s ops : List ℕ) (ts : List Bool) (n : ℕ) → n ≤ length ops → n ≤ length ts
    → ((j : ℕ) → j < n → get_or ts j false ≡ comparison_holds d c u (compared_at s (get_or ops j 0))) → map (comparison_holds d c u) (map (compared_at s) (take n ops)) ≡ take n ts
truths_told d c u s ops ts n a b each = map_map (comparison_holds d c u) (compared_at s) (take n ops) ∙ truths_all (λ x. comparison_holds d c u (compared_at s x)) ops ts n a b each

-- ---- a condition

module _ (d : Policy) (k : Clock) (u : User) (s : List ℕ) (at : ℕ) where
  -- one that was read, with its comparisons where their operators are stored
  module _ (c : Cond Compared) (l : Left) (h : condition_in_form (from s at) ≡ some (c, l)) (n : ℕ) (sized : length (comparisons c) ≡ n) (ops : List ℕ) where
    -- it has no more than 64
    pub read_few : length (comparisons (condition_read (condition_in_form (from s at)))) ≤ 64 → n ≤ 64
    unfolding condition_read
    read_few f = omega (arith, f, sized, ap (λ o. length (comparisons (condition_read o))) h)

    module _ (r : Option (ℕ × ℕ)) (placed : Placed s at r ops) (few : n ≤ 64) where
      taken : comparisons c ≡ map (compared_at s) (take n ops)
      taken = placed_is s at c l h r ops placed (omega (arith, few, sized)) ∙ ap (λ m. map (compared_at s) (take m ops)) sized

      pub read_known : attributes_known d (condition_read (condition_in_form (from s at))) ≡ true → all_of (λ x. there (attribute_of d x.of)) (map (compared_at s) (take n ops)) ≡ true
      unfolding attributes_known condition_read
      read_known t = ap (all_of (λ (x : Compared). there (attribute_of d x.of))) (sym taken) ∙ sym (ap (λ o. attributes_known d (condition_read o)) h) ∙ t

      pub read_holds : (ts : List Bool) (b : Bool) → ((f : Compared → Bool) → map f (comparisons_at s at) ≡ take (length (comparisons_at s at)) ts → b ≡ held_read f (condition_in_form (from s at)))
          → map (comparison_holds d k u) (map (compared_at s) (take n ops)) ≡ take n ts → b ≡ holds (comparison_holds d k u) (condition_read (condition_in_form (from s at)))
      unfolding condition_read
      read_holds ts b p told =
          held_is s at c l h ts b p (comparison_holds d k u) (ap (map (comparison_holds d k u)) taken ∙ told ∙ ap (λ m. take m ts) (sym sized))
          ∙ ap (λ o. holds (comparison_holds d k u) (condition_read o)) (sym h)

-- ---- a conditional role

-- the condition read in its line is that of the conditional role
pub role_read : (text ws : List ℕ) (i a e p : ℕ) (line : List ℕ) → a ≡ cond_role_start_in ws i → e ≡ cond_role_end_in ws i → p ≡ cond_role_place_in ws i → line ≡ line_in text a e
    → condition_read (condition_in_form (from line p)) ≡ condition_in text ws i
unfolding condition_in condition_in_line
role_read text ws i a e p line ea ee ep el =
    ap (λ l. condition_read (condition_in_form (from l p))) (el ∙ (λ j. line_in text (ea j) (ee j)))
    ∙ ap (λ n. condition_read (condition_in_form (from (line_in text (cond_role_start_in ws i) (cond_role_end_in ws i)) n))) ep

-- and it can be read there
pub role_reads : (text ws : List ℕ) (i a e p : ℕ) (line : List ℕ) → a ≡ cond_role_start_in ws i → e ≡ cond_role_end_in ws i → p ≡ cond_role_place_in ws i → line ≡ line_in text a e
    → there (condition_in_form (from line p)) ≡ reads_in text ws i
unfolding reads_in condition_reads
role_reads text ws i a e p line ea ee ep el =
    ap (λ l. there (condition_in_form (from l p))) (el ∙ (λ j. line_in text (ea j) (ee j)))
    ∙ ap (λ n. there (condition_in_form (from (line_in text (cond_role_start_in ws i) (cond_role_end_in ws i)) n))) ep

module _ (d : Policy) (c : Clock) (u : User) (text ws : List ℕ) (i : ℕ) where
  -- its condition has as many comparisons as the one read
  pub role_few : length (comparisons (cond_role_in d text ws i).condition) ≤ 64 → length (comparisons (condition_in text ws i)) ≤ 64
  unfolding cond_role_in
  role_few h = omega (arith, h, ap length (comparisons_map (attribute_comparison d) (condition_in text ws i)), length-map (comparisons (condition_in text ws i)) (attribute_comparison d))

  -- and holds as that does
  pub role_is : holds (comparison_holds d c u) (condition_in text ws i) ≡ condition_holds c u (cond_role_in d text ws i)
  unfolding condition_holds cond_role_in comparison_holds words_meet attribute_comparison
  role_is = sym (holds_map (λ x. attribute_meets u x (clock_number c x.of)) (attribute_comparison d) (condition_in text ws i))

-- all conditional roles
module _ (d : Policy) (text ws : List ℕ) (k : ℕ) (rs : List CondRole) (h : CondRoles d text ws k rs) where
  pub role_short : ((i : ℕ) (r : CondRole) → get_elem? rs i ≡ some r → length (comparisons r.condition) ≤ 64) → (i : ℕ) → i < k → length (comparisons (cond_role_in d text ws i).condition) ≤ 64
  role_short short i l = short i (cond_role_in d text ws i) (ap (λ (x : List CondRole). get_elem? x i) (sym h.are) ∙ tabulated_at (cond_role_in d text ws) k i l)

  pub roles_held : (c : Clock) (u : User) (ts : List Bool) → ((j : ℕ) → j < k → get_or ts j false ≡ condition_holds c u (cond_role_in d text ws j)) → Held c u rs ts
  roles_held c u ts each = record { are = λ i r e. let got = tabulated_there (cond_role_in d text ws) k i r (ap (λ (x : List CondRole). get_elem? x i) h.are ∙ e) in each i got.0 ∙ ap (condition_holds c u) (sym got.1) }
