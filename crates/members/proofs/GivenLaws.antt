-- The values of a user line as code walks through them: a turn of each walk, and where it ends. Assumes nothing.
use Prim.Native.Nat.{◌+◌, ◌-◌, ◌<◌, ◌≤◌, suc, zero, ℕ}
use lib.Dec.{eqb}
use lib.ListN.{drop, get_or, get_elem?, length, take}
use lib.Seq.{take-nil}
use mathlib.Core.Bool.{Bool, ◌&&◌, ◌||◌, cond, false, not, true}
use mathlib.Core.List.{List, [], ◌++◌, ◌∷◌, map}
use mathlib.Core.Option
use mathlib.Core.Option.{Option, bind, none, some}
use mathlib.Core.Path.{◌∙◌, ◌≡◌, ap, refl, sym}
use native.Mathlib.Numerals.{add-one}
use native.Mathlib.Omega.{arith}
use Rattle.condition.specs.Kinds.{Kind, has_kind, numbers}
use Rattle.document.proofs.GivesAll.{gives_all_counts}
use Rattle.document.specs.Lookup.{attribute_kind, attribute_named, attribute_of, has_attribute}
use Rattle.document.specs.Policy.{Attribute, Policy, clock_attributes}
use Rattle.document.specs.ValueFaults.{gives_all, is_attribute_of}
use Rattle.form.proofs.WalkSteps.{givens_more, givens_stop, pair_after}
use Rattle.form.specs.Form.{GivenForm}
use Rattle.form.specs.Walks.{first_in, given_at, givens_at, pair_end_at, second_in}
use Rattle.workspace.proofs.TabulatedLaws.{tabulated_at, tabulated_more}
use Rattle.principals.specs.Attributes.{Attributes, attribute_in}
use Rattle.workspace.specs.Tabulated.{tabulated}
use Rattle.lists.proofs.ListLaws.{count_less, count_more, count_nil, find_index_found, holds_of_some}
use Rattle.lists.specs.Distinct.{NoTwoSame}
use Rattle.lists.specs.Lists.{all_of, any_of, count_of, holds_of, keep, there}
use Rattle.text.proofs.Lefts.{before_end}
use Rattle.text.proofs.OffendingLaws.{missing_here, missing_next, missing_nil, same_word}
use Rattle.text.proofs.WalkingLaws.{next_within, past_within}
use Rattle.text.specs.Names.{same_name}
use Rattle.text.specs.Offending.{leftmost, missing, repeated, repeated_after, unless}
use Rattle.text.specs.Words.{Word, is_called, word_at, word_of}

-- the attributes that are given from a place on
abbrev pub given_names : List ℕ → ℕ → List Word
given_names s at = map (λ (g : GivenForm). g.attribute) (givens_at s at)

-- ---- a turn

-- where a space stands, the line goes on
pub space_here : (s : List ℕ) (j : ℕ) → get_or s j 0 ≡ 32 → j < length s
space_here s j h = before_end s j (λ z. omega (arith, h, z))

module _ (s : List ℕ) (j : ℕ) (h : get_or s j 0 ≡ 32) where
  pub first_near : first_in s (j + 1) ≤ length s
  unfolding first_in
  first_near = past_within 40 s (j + 1) (omega (arith, space_here s j h))

  pub second_near : second_in s (j + 1) ≤ length s
  unfolding second_in
  second_near = next_within s (first_in s (j + 1)) first_near

  -- what is left of the line gets less
  pub pair_less : (e : ℕ) → e ≡ pair_end_at s (j + 1) → length s - e < length s - j
  pair_less e p = omega (arith, p, space_here s j h, pair_after s j)

  pub names_onward : given_names s j ≡ word_of s (first_in s (j + 1)) ∷ given_names s (pair_end_at s (j + 1))
  unfolding given_at
  names_onward = ap (map (λ (g : GivenForm). g.attribute)) (givens_more s j h)

pub names_over : (s : List ℕ) (j : ℕ) → (get_or s j 0 ≡ 32 → ⊥) → given_names s j ≡ []
names_over s j h = ap (map (λ (g : GivenForm). g.attribute)) (givens_stop s j h)

-- ---- the first that fails a test

module _ (f : Word → Bool) where
  all_pass : (w : Word) (ws : List Word) → f w ≡ true → all_of f (w ∷ ws) ≡ all_of f ws
  unfolding all_of
  all_pass w ws h = rw h

  all_fail : (w : Word) (ws : List Word) → f w ≡ false → all_of f (w ∷ ws) ≡ false
  unfolding all_of
  all_fail w ws h = rw h

  all_nil : all_of f [] ≡ true
  unfolding all_of
  all_nil = refl

  pub missing_over : (s : List ℕ) (j : ℕ) → (get_or s j 0 ≡ 32 → ⊥) → missing f (given_names s j) ≡ none
  missing_over s j h = ap (missing f) (names_over s j h) ∙ missing_nil f

  pub all_over : (s : List ℕ) (j : ℕ) → (get_or s j 0 ≡ 32 → ⊥) → all_of f (given_names s j) ≡ true
  all_over s j h = ap (all_of f) (names_over s j h) ∙ all_nil

  module _ (s : List ℕ) (j a : ℕ) (h : get_or s j 0 ≡ 32) (p : a ≡ first_in s (j + 1)) where
    pub missing_onward : (e : ℕ) → e ≡ pair_end_at s (j + 1) → f (word_of s a) ≡ true → missing f (given_names s e) ≡ missing f (given_names s j)
    missing_onward e q t =
        ap (λ n. missing f (given_names s n)) q
        ∙ sym (ap (missing f) (names_onward s j h) ∙ missing_next f _ (given_names s (pair_end_at s (j + 1))) (ap (λ n. f (word_of s n)) (sym p) ∙ t))

    pub missing_found : f (word_of s a) ≡ false → missing f (given_names s j) ≡ some (word_of s a)
    missing_found t =
        ap (missing f) (names_onward s j h) ∙ missing_here f _ (given_names s (pair_end_at s (j + 1))) (ap (λ n. f (word_of s n)) (sym p) ∙ t)
        ∙ ap (λ n. some (word_of s n)) (sym p)

    pub all_onward : (e : ℕ) → e ≡ pair_end_at s (j + 1) → f (word_of s a) ≡ true → all_of f (given_names s e) ≡ all_of f (given_names s j)
    all_onward e q t =
        ap (λ n. all_of f (given_names s n)) q
        ∙ sym (ap (all_of f) (names_onward s j h) ∙ all_pass _ (given_names s (pair_end_at s (j + 1))) (ap (λ n. f (word_of s n)) (sym p) ∙ t))

    pub all_here : f (word_of s a) ≡ false → all_of f (given_names s j) ≡ false
    all_here t = ap (all_of f) (names_onward s j h) ∙ all_fail _ (given_names s (pair_end_at s (j + 1))) (ap (λ n. f (word_of s n)) (sym p) ∙ t)

-- ---- among the first n

module _ (f : Word → Bool) where
  any_pass : (m : ℕ) (w : Word) (ws : List Word) → f w ≡ false → any_of f (take m ws) ≡ any_of f (take (suc m) (w ∷ ws))
  unfolding any_of
  any_pass m w ws h = rw h

  any_here : (m : ℕ) (w : Word) (ws : List Word) → f w ≡ true → 0 < m → any_of f (take m (w ∷ ws)) ≡ true
  unfolding any_of
  any_here zero w ws h l = absurd (omega (arith, l))
  any_here (suc m) w ws h l = rw h

  pub among_none : (ws : List Word) (m : ℕ) → m ≡ 0 → any_of f (take m ws) ≡ false
  unfolding any_of
  among_none ws m e = ap (λ n. any_of f (take n ws)) e

  pub among_over : (s : List ℕ) (j m : ℕ) → (get_or s j 0 ≡ 32 → ⊥) → any_of f (take m (given_names s j)) ≡ false
  unfolding any_of
  among_over s j m h = ap (λ ws. any_of f (take m ws)) (names_over s j h) ∙ ap (any_of f) (take-nil m)

  module _ (s : List ℕ) (j a n i : ℕ) (h : get_or s j 0 ≡ 32) (p : a ≡ first_in s (j + 1)) (l : i < n) where
    pub among_onward : (e : ℕ) → e ≡ pair_end_at s (j + 1) → f (word_of s a) ≡ false → any_of f (take (n - (i + 1)) (given_names s e)) ≡ any_of f (take (n - i) (given_names s j))
    among_onward e q t =
        ap (λ x. any_of f (take (n - (i + 1)) (given_names s x))) q
        ∙ any_pass (n - (i + 1)) _ (given_names s (pair_end_at s (j + 1))) (ap (λ x. f (word_of s x)) (sym p) ∙ t)
        ∙ ap (λ m. any_of f (take m (word_of s (first_in s (j + 1)) ∷ given_names s (pair_end_at s (j + 1))))) one_less
        ∙ ap (λ ws. any_of f (take (n - i) ws)) (sym (names_onward s j h))
      where
        one_less : suc (n - (i + 1)) ≡ n - i
        one_less = omega (arith, l)

    pub among_here : f (word_of s a) ≡ true → any_of f (take (n - i) (given_names s j)) ≡ true
    among_here t =
        ap (λ ws. any_of f (take (n - i) ws)) (names_onward s j h)
        ∙ any_here (n - i) _ (given_names s (pair_end_at s (j + 1))) (ap (λ x. f (word_of s x)) (sym p) ∙ t) (omega (arith, l))

-- ---- repeats

same_earlier : (a b ws : List Word) → ((w : Word) → any_of (same_word w) a ≡ any_of (same_word w) b) → repeated_after a ws ≡ repeated_after b ws
unfolding repeated_after any_of
same_earlier a b [] h = refl
same_earlier a b (w ∷ ws) h =
    ap (λ t. cond t (some w) (repeated_after (w ∷ a) ws)) (h w)
    ∙ ap (cond (any_of (same_word w) b) (some w)) (same_earlier (w ∷ a) (w ∷ b) ws (λ v. ap (λ t. same_word v w || t) (h v)))

swap : (a b c : Bool) → (a || (b || c)) ≡ (b || (a || c))
swap true true c = refl
swap true false c = refl
swap false b c = refl

any_behind : (f : Word → Bool) (xs : List Word) (x : Word) → any_of f (x ∷ xs) ≡ any_of f (xs ++ (x ∷ []))
unfolding any_of
any_behind f [] x = refl
any_behind f (y ∷ ys) x = swap (f x) (f y) (any_of f ys) ∙ ap (λ t. f y || t) (any_behind f ys x)

-- the first n and the rest, one further
take_next : (n : ℕ) (all : List Word) (w : Word) (rest : List Word) → drop n all ≡ w ∷ rest → (take (suc n) all ≡ take n all ++ (w ∷ [])) × (drop (suc n) all ≡ rest)
take_next zero [] w rest e = absurd (omega (arith, ap length e))
take_next zero (x ∷ xs) w rest e = (cc, cc)
take_next (suc n) [] w rest e = absurd (omega (arith, ap length e))
take_next (suc n) (x ∷ xs) w rest e = let t = take_next n xs w rest e in (ap (λ (l : List Word). x ∷ l) t.0, t.1)

module _ (s : List ℕ) (j a n : ℕ) (all : List Word) (h : get_or s j 0 ≡ 32) (p : a ≡ first_in s (j + 1)) (r : drop n all ≡ given_names s j) where
  -- the rest
  pub rest_onward : (e : ℕ) → e ≡ pair_end_at s (j + 1) → drop (n + 1) all ≡ given_names s e
  rest_onward e q =
      ap (λ m. drop m all) (add-one n) ∙ (take_next n all _ _ (r ∙ names_onward s j h)).1 ∙ ap (given_names s) (sym q)

  -- a test of the names that were passed and the next one
  pub tests_onward : (f : Word → Bool) → any_of f (take (n + 1) all) ≡ (f (word_of s a) || any_of f (take n all))
  unfolding any_of
  tests_onward f =
      ap (λ m. any_of f (take m all)) (add-one n) ∙ ap (any_of f) (take_next n all _ _ (r ∙ names_onward s j h)).0
      ∙ sym (any_behind f (take n all) (word_of s (first_in s (j + 1)))) ∙ ap (λ x. f (word_of s x) || any_of f (take n all)) (sym p)

  pub repeats_onward : (e : ℕ) → e ≡ pair_end_at s (j + 1) → any_of (same_word (word_of s a)) (take n all) ≡ false
      → repeated_after (take (n + 1) all) (given_names s e) ≡ repeated_after (take n all) (given_names s j)
  unfolding repeated_after
  repeats_onward e q t =
      ap (λ m. repeated_after (take m all) (given_names s e)) (add-one n)
      ∙ ap (λ l. repeated_after l (given_names s e)) (take_next n all _ _ (r ∙ names_onward s j h)).0
      ∙ sym (same_earlier (word_of s (first_in s (j + 1)) ∷ take n all) (take n all ++ (word_of s (first_in s (j + 1)) ∷ [])) (given_names s e) (λ w. any_behind (same_word w) (take n all) (word_of s (first_in s (j + 1)))))
      ∙ ap (λ x. repeated_after (word_of s (first_in s (j + 1)) ∷ take n all) (given_names s x)) q
      ∙ sym (ap (λ b. cond b (some (word_of s (first_in s (j + 1)))) (repeated_after (word_of s (first_in s (j + 1)) ∷ take n all) (given_names s (pair_end_at s (j + 1)))))
      (ap (λ x. any_of (same_word (word_of s x)) (take n all)) (sym p) ∙ t))
      ∙ sym (ap (repeated_after (take n all)) (names_onward s j h))

  pub repeats_here : any_of (same_word (word_of s a)) (take n all) ≡ true → there (repeated_after (take n all) (given_names s j)) ≡ true
  unfolding repeated_after there
  repeats_here t =
      ap (λ l. there (repeated_after (take n all) l)) (names_onward s j h)
      ∙ ap (λ b. there (cond b (some (word_of s (first_in s (j + 1)))) (repeated_after (word_of s (first_in s (j + 1)) ∷ take n all) (given_names s (pair_end_at s (j + 1))))))
      (ap (λ x. any_of (same_word (word_of s x)) (take n all)) (sym p) ∙ t)

pub repeats_over : (s : List ℕ) (j : ℕ) (earlier : List Word) → (get_or s j 0 ≡ 32 → ⊥) → there (repeated_after earlier (given_names s j)) ≡ false
unfolding repeated_after there
repeats_over s j earlier h = ap (λ l. there (repeated_after earlier l)) (names_over s j h)

-- ---- the first value of a wrong type

-- the value, where it is not of its attribute's type
abbrev pub mistyped_given : Policy → GivenForm → Option Word
mistyped_given d g = unless (has_kind (attribute_kind d g.attribute) g.value.bytes) g.value

module _ (d : Policy) (s : List ℕ) (j : ℕ) where
  pub typed_over : (get_or s j 0 ≡ 32 → ⊥) → leftmost (map (mistyped_given d) (givens_at s j)) ≡ none
  unfolding leftmost
  typed_over h = ap (λ l. leftmost (map (mistyped_given d) l)) (givens_stop s j h)

  module _ (a v : ℕ) (h : get_or s j 0 ≡ 32) (p : a ≡ first_in s (j + 1)) (q : v ≡ second_in s (j + 1)) where
    -- the test of the first value, by its places
    value_test : (b : Bool) → has_kind (attribute_kind d (word_of s a)) (word_at s v) ≡ b
        → leftmost (map (mistyped_given d) (givens_at s j)) ≡ leftmost (unless b (word_of s v) ∷ map (mistyped_given d) (givens_at s (pair_end_at s (j + 1))))
    unfolding given_at
    value_test b t =
        ap (λ l. leftmost (map (mistyped_given d) l)) (givens_more s j h)
        ∙ ap (λ x. leftmost (unless (has_kind (attribute_kind d (word_of s x)) (word_at s (second_in s (j + 1)))) (word_of s (second_in s (j + 1))) ∷ map (mistyped_given d) (givens_at s (pair_end_at s (j + 1))))) (sym p)
        ∙ ap (λ y. leftmost (unless (has_kind (attribute_kind d (word_of s a)) (word_at s y)) (word_of s y) ∷ map (mistyped_given d) (givens_at s (pair_end_at s (j + 1))))) (sym q)
        ∙ ap (λ b. leftmost (unless b (word_of s v) ∷ map (mistyped_given d) (givens_at s (pair_end_at s (j + 1))))) t

    pub typed_onward : (e : ℕ) → e ≡ pair_end_at s (j + 1) → has_kind (attribute_kind d (word_of s a)) (word_at s v) ≡ true
        → leftmost (map (mistyped_given d) (givens_at s e)) ≡ leftmost (map (mistyped_given d) (givens_at s j))
    unfolding leftmost unless
    typed_onward e r t = ap (λ x. leftmost (map (mistyped_given d) (givens_at s x))) r ∙ sym (value_test true t)

    pub typed_here : has_kind (attribute_kind d (word_of s a)) (word_at s v) ≡ false → leftmost (map (mistyped_given d) (givens_at s j)) ≡ some (word_of s v)
    unfolding leftmost unless
    typed_here t = value_test false t

-- ---- what the name of an attribute stands for

module _ (d : Policy) (w : Word) where
  named_at : (n : ℕ) → attribute_of d w ≡ some n → (a : Attribute) × (get_elem? d.attributes n ≡ some a) × (attribute_named d w ≡ some a)
  unfolding attribute_named attribute_of bind
  named_at n e =
      let x = holds_of_some (λ a. is_called w a.name) (get_elem? d.attributes n) (find_index_found (λ a. is_called w a.name) d.attributes n e).0 in
      (x.0, x.1, ap (λ o. bind o (get_elem? d.attributes)) e ∙ x.1)

  named_none : attribute_of d w ≡ none → attribute_named d w ≡ none
  unfolding attribute_named bind
  named_none e = ap (λ o. bind o (get_elem? d.attributes)) e

  -- its type
  pub kind_at : (n : ℕ) (k : Kind) → attribute_of d w ≡ some n → ((a : Attribute) → get_elem? d.attributes n ≡ some a → a.kind ≡ k) → attribute_kind d w ≡ k
  unfolding attribute_kind
  kind_at n k e h =
      let x = named_at n e in
      ap (λ (o : Option Attribute). Option.get_or (Option.map (λ a. a.kind) o) numbers) x.2 ∙ h x.0 x.1

  pub kind_none : attribute_of d w ≡ none → attribute_kind d w ≡ numbers
  unfolding attribute_kind
  kind_none e = ap (λ (o : Option Attribute). Option.get_or (Option.map (λ a. a.kind) o) numbers) (named_none e)

  -- whether the role has it
  pub of_role_at : (r n : ℕ) (b : Bool) → attribute_of d w ≡ some n → ((a : Attribute) → get_elem? d.attributes n ≡ some a → b ≡ has_attribute d r a) → b ≡ is_attribute_of d r w
  unfolding is_attribute_of holds_of
  of_role_at r n b e h = let x = named_at n e in h x.0 x.1 ∙ sym (ap (holds_of (has_attribute d r)) x.2)

  pub of_role_none : (r : ℕ) → attribute_of d w ≡ none → is_attribute_of d r w ≡ false
  unfolding is_attribute_of holds_of
  of_role_none r e = ap (holds_of (has_attribute d r)) (named_none e)

-- ---- how many attributes a role has

count_behind : {A : Type 0} (f : A → Bool) (xs : List A) (x : A) → count_of f (xs ++ (x ∷ [])) ≡ count_of f xs + count_of f (x ∷ [])
count_behind f [] x = omega (arith, count_nil f)
count_behind {A} f (y ∷ ys) x = go (f y) refl (count_behind f ys x)
  where
    go : (b : Bool) → f y ≡ b → count_of f (ys ++ (x ∷ [])) ≡ count_of f ys + count_of f (x ∷ []) → count_of f (y ∷ (ys ++ (x ∷ []))) ≡ count_of f (y ∷ ys) + count_of f (x ∷ [])
    go true e h = omega (arith, count_more f y (ys ++ (x ∷ [])) e, count_more f y ys e, h)
    go false e h = omega (arith, count_less f y (ys ++ (x ∷ [])) e, count_less f y ys e, h)

module _ (d : Policy) (holder : ℕ) (text ws : List ℕ) where
  -- how many of the first i that stand in the array
  abbrev pub held_of : ℕ → ℕ
  held_of i = count_of (has_attribute d holder) (tabulated (attribute_in text ws) i)

  pub held_none : held_of 0 ≡ 0
  unfolding tabulated
  held_none = count_nil (has_attribute d holder)

  pub held_more : (i : ℕ) → has_attribute d holder (attribute_in text ws i) ≡ true → held_of (i + 1) ≡ held_of i + 1
  held_more i h =
      ap (count_of (has_attribute d holder)) (tabulated_more (attribute_in text ws) i)
      ∙ omega (arith, count_behind (has_attribute d holder) (tabulated (attribute_in text ws) i) (attribute_in text ws i), count_more (has_attribute d holder) (attribute_in text ws i) [] h, count_nil (has_attribute d holder))

  pub held_same : (i : ℕ) → has_attribute d holder (attribute_in text ws i) ≡ false → held_of (i + 1) ≡ held_of i
  held_same i h =
      ap (count_of (has_attribute d holder)) (tabulated_more (attribute_in text ws) i)
      ∙ omega (arith, count_behind (has_attribute d holder) (tabulated (attribute_in text ws) i) (attribute_in text ws i), count_less (has_attribute d holder) (attribute_in text ws i) [] h, count_nil (has_attribute d holder))

  -- the clock's are no role's
  clock_none : (xs : List Attribute) → count_of (has_attribute d holder) (clock_attributes ++ xs) ≡ count_of (has_attribute d holder) xs
  unfolding clock_attributes count_of keep has_attribute holds_of
  clock_none xs = refl

  module _ (k : ℕ) (h : Attributes text ws k d.attributes) where
    pub held_all : count_of (has_attribute d holder) d.attributes ≡ held_of k
    held_all = ap (count_of (has_attribute d holder)) (sym h.are) ∙ clock_none (tabulated (attribute_in text ws) k)

    -- the others have their numbers behind the clock's
    pub held_at : (i : ℕ) → i < k → get_elem? d.attributes (3 + i) ≡ some (attribute_in text ws i)
    unfolding clock_attributes
    held_at i l =
        ap (λ xs. get_elem? xs (3 + i)) (sym h.are)
        ∙ ap (get_elem? (clock_attributes ++ tabulated (attribute_in text ws) k)) three_on
        ∙ tabulated_at (attribute_in text ws) k i l
      where
        three_on : 3 + i ≡ suc (suc (suc i))
        three_on = omega arith

-- ---- one value for each attribute of the role, by counting

module _ (d : Policy) (holder : ℕ) (ws : List Word) (unique : NoTwoSame (λ x y. same_name x.name y.name) d.attributes) where
  pub gives_repeated : there (repeated ws) ≡ true → gives_all d holder ws ≡ false
  unfolding is_attribute_of
  gives_repeated h =
      gives_all_counts d holder ws unique
      ∙ ap (λ b. not b && (all_of (is_attribute_of d holder) ws && eqb (length ws) (count_of (has_attribute d holder) d.attributes))) h

  module _ (free : there (repeated ws) ≡ false) where
    pub gives_other : all_of (is_attribute_of d holder) ws ≡ false → gives_all d holder ws ≡ false
    unfolding is_attribute_of
    gives_other h =
        gives_all_counts d holder ws unique
        ∙ ap (λ b. not b && (all_of (is_attribute_of d holder) ws && eqb (length ws) (count_of (has_attribute d holder) d.attributes))) free
        ∙ ap (λ b. b && eqb (length ws) (count_of (has_attribute d holder) d.attributes)) h

    pub gives_counted : all_of (is_attribute_of d holder) ws ≡ true → gives_all d holder ws ≡ eqb (length ws) (count_of (has_attribute d holder) d.attributes)
    unfolding is_attribute_of
    gives_counted h =
        gives_all_counts d holder ws unique
        ∙ ap (λ b. not b && (all_of (is_attribute_of d holder) ws && eqb (length ws) (count_of (has_attribute d holder) d.attributes))) free
        ∙ ap (λ b. b && eqb (length ws) (count_of (has_attribute d holder) d.attributes)) h
