-- What the fault finder of a conditional role's line learns from its tests: attributes by their words, the first of the stored places
-- that fails, the places of the condition's comparisons, and the check of the line by its faults. Assumes nothing.
use Prim.Native.Nat.{◌+◌, ◌-◌, ◌<◌, ◌≤◌, suc, zero, ℕ}
use borrow.Author.Tests.{eqb-true, le-leb, le-ltb, leb-true, lt-leb, lt-ltb}
use lib.Dec.{eqb, leb}
use lib.ListN.{get_or, get_elem?, length, length-map, length-take, take}
use mathlib.Core.Bool.{Bool, ◌||◌, false, not, true}
use mathlib.Core.List.{List, [], ◌∷◌, map}
use mathlib.Core.Option
use mathlib.Core.Option.{Option, none-ne-some, some-injective, bind, none, some}
use mathlib.Core.Path.{◌∙◌, ◌≡◌, ap, refl, sym}
use native.Mathlib.Omega.{arith}
use Rattle.condition.proofs.CondEats.{size}
use Rattle.condition.proofs.PlaceLaws.{places_here, places_next, places_read, places_in}
use Rattle.condition.proofs.ReadLaws.{condition_at_lem, placed_is, read_count}
use Rattle.condition.specs.Answers.{Placed, compared_at, opens_comparison, read_to}
use Rattle.condition.specs.Cond.{Cond, comparisons}
use Rattle.condition.specs.CondForm.{Compared, condition_in_form, mistyped}
use Rattle.condition.specs.Kinds.{Kind, has_kind, numbers, takes}
use Rattle.document.specs.AmountFaults.{broken_range, no_such_date}
use Rattle.document.specs.Bounds.{late_attr, over_bound, second_root}
use Rattle.document.specs.Lookup.{attribute_kind, attribute_named, attribute_of, cond_role_of, has_attribute, is_clock, role_of}
use Rattle.document.specs.NameFaults.{taken, unknown, usable_for}
use Rattle.document.specs.NoteFaults.{misplaced}
use Rattle.document.specs.Policy.{Attribute, Doc, Policy, tree_of}
use Rattle.document.specs.TypeFaults.{wrong_type}
use Rattle.document.specs.ValueFaults.{misfit}
use Rattle.form.specs.Form.{Form, cond_role}
use Rattle.lists.proofs.ListLaws.{all_map, find_index_found, holds_of_some, map_map}
use Rattle.lists.proofs.Tests.{and_both, and_left, and_right, or_right}
use Rattle.lists.specs.Lists.{all_of, holds_of, or_zero, there}
use Rattle.purpose.specs.Compliance.{descends}
use Rattle.text.proofs.Lefts.{before_end}
use Rattle.text.proofs.OffendingLaws.{leftmost_only}
use Rattle.text.proofs.WalkingLaws.{next_within}
use Rattle.text.specs.Offending.{leftmost, missing, offending_if, unless}
use Rattle.text.specs.Reader.{Left, from}
use Rattle.text.specs.Walking.{next_word}
use Rattle.text.specs.Words.{Word, is_called, word_of, written_at, written_of}
use Rattle.std.specs.Prelude as prelude
use Rattle.std.specs.Prelude.{Some}

-- ---- attributes by their words

module _ (d : Policy) (w : Word) where
  pub named_none : none ≡ attribute_of d w → attribute_named d w ≡ none
  unfolding attribute_named bind
  named_none e = ap (λ (o : Option ℕ). bind o (get_elem? d.attributes)) (sym e)

  module _ (n : ℕ) (e : some n ≡ attribute_of d w) where
    -- what is found is there
    pub named : (a : Attribute) × (get_elem? d.attributes n ≡ some a) × (attribute_named d w ≡ some a)
    unfolding attribute_of attribute_named bind
    named =
        let f = (find_index_found (λ (x : Attribute). is_called w x.name) d.attributes n (sym e)).0 in
        let x = holds_of_some (λ (x : Attribute). is_called w x.name) (get_elem? d.attributes n) f in
        (x.0, x.1, ap (λ (o : Option ℕ). bind o (get_elem? d.attributes)) (sym e) ∙ x.1)

  -- a condition over the role r may use an attribute that is defined at the role o, or nowhere
  abbrev may_use : ℕ → Option ℕ → Bool
  may_use r o = not (there o) || holds_of (descends (tree_of d.roles) r) o

  pub usable_none : (r : ℕ) → attribute_named d w ≡ none → usable_for d r w ≡ false
  unfolding usable_for holds_of
  usable_none r e = ap (holds_of (λ a. is_clock a || has_attribute d r a)) e

  usable_named : (r : ℕ) (a : Attribute) (o : Option ℕ) → attribute_named d w ≡ some a → o ≡ a.role → usable_for d r w ≡ may_use r o
  unfolding usable_for holds_of is_clock has_attribute
  usable_named r a o e h = ap (holds_of (λ a. is_clock a || has_attribute d r a)) e ∙ ap (may_use r) (sym h)

  pub usable_clock : (r : ℕ) (a : Attribute) → attribute_named d w ≡ some a → none ≡ a.role → usable_for d r w ≡ true
  unfolding there
  usable_clock r a e h = usable_named r a none e h

  pub usable_role : (r : ℕ) (a : Attribute) (q : ℕ) → attribute_named d w ≡ some a → some q ≡ a.role → usable_for d r w ≡ descends (tree_of d.roles) r q
  unfolding there holds_of
  usable_role r a q e h = usable_named r a (some q) e h

  pub kind_none : attribute_named d w ≡ none → attribute_kind d w ≡ numbers
  unfolding attribute_kind
  kind_none e = ap (λ (o : Option Attribute). Option.get_or (Option.map (λ a. a.kind) o) numbers) e

  pub kind_there : (a : Attribute) → attribute_named d w ≡ some a → attribute_kind d w ≡ a.kind
  unfolding attribute_kind
  kind_there a e = ap (λ (o : Option Attribute). Option.get_or (Option.map (λ a. a.kind) o) numbers) e

-- an operator or a value of the wrong type stands in the text
pub mistyped_near : (s : List ℕ) (k : Kind) (at v : ℕ) → at ≤ length s → some (written_of s v) ≡ mistyped k (compared_at s at) → v ≤ length s
unfolding mistyped compared_at leftmost unless
mistyped_near s k at v h e = go (takes k (compared_at s at).op) (has_kind k (written_at s (next_word s (next_word s at)))) e
  where
    go : (b t : Bool) → some (written_of s v) ≡ leftmost (unless b (written_of s at) ∷ unless t (written_of s (next_word s (next_word s at))) ∷ []) → v ≤ length s
    go false t e = let q : v ≡ at = ap (λ (w : Word). w.at) (some-injective _ _ e) in omega (arith, q, h)
    go true false e =
        let q : v ≡ next_word s (next_word s at) = ap (λ (w : Word). w.at) (some-injective _ _ e) in
        omega (arith, q, next_within s (next_word s at) (next_within s at h))
    go true true e = absurd (none-ne-some _ (sym e))

-- ---- the places of a condition's comparisons

all_places : (s : List ℕ) (n at : ℕ) → all_of (λ p. leb p (length s)) (places_in s n at) ≡ true
unfolding all_of places_in
all_places s zero at = refl
all_places s (suc n) at = go (opens_comparison s at) refl (all_places s n (at + 1))
  where
    go : (t : Bool) → opens_comparison s at ≡ t → all_of (λ p. leb p (length s)) (places_in s n (at + 1)) ≡ true → all_of (λ p. leb p (length s)) (places_in s (suc n) at) ≡ true
    go true e rest =
        let b : get_or s at 0 ≡ 40 = eqb-true _ _ (opened_by s at e) in
        let i : at < length s = before_end s at (λ z. absurd (omega (arith, b, z))) in
        ap (all_of (λ p. leb p (length s))) (places_here s n at e) ∙ and_both (leb (at + 1) (length s)) _ (le-leb (at + 1) (length s) (omega (arith, i))) rest
      where
        opened_by : (s : List ℕ) (at : ℕ) → opens_comparison s at ≡ true → eqb (get_or s at 0) 40 ≡ true
        opened_by s at e = unfold opens_comparison in and_left (eqb (get_or s at 0) 40) _ e
    go false e rest = ap (all_of (λ p. leb p (length s))) (places_next s n at e) ∙ rest

all_taken : (f : ℕ → Bool) (xs : List ℕ) (n i : ℕ) → all_of f (take n xs) ≡ true → n ≤ length xs → i < n → f (get_or xs i 0) ≡ true
unfolding all_of
all_taken f [] n i h a b = absurd (omega (arith, a, b))
all_taken f (x ∷ xs) zero i h a b = absurd (omega (arith, b))
all_taken f (x ∷ xs) (suc n) zero h a b = and_left (f x) _ h
all_taken f (x ∷ xs) (suc n) (suc i) h a b = all_taken f xs n i (and_right (f x) _ h) (omega (arith, a)) (omega (arith, b))

-- the answer of n comparisons and the places that were stored: how many there are, and what a condition that stands there has
module _ (s : List ℕ) (at : ℕ) (r : prelude.Option (ℕ × ℕ)) (ops : List ℕ) (p : Placed s at r ops) (e n : ℕ) (h : r ≡ Some (e, n)) where
  count_is : (x : Cond Compared) (l : Left) → condition_in_form (from s at) ≡ some (x, l) → n ≡ size x
  count_is x l k = read_count e l.at n (size x) (sym h ∙ p.reads ∙ ap read_to k)

  -- there are no more than 64 of them, and so they are those that were stored
  module _ (few : n ≤ 64) where
    stored_are : (x : Cond Compared) (l : Left) → condition_in_form (from s at) ≡ some (x, l) → comparisons x ≡ map (compared_at s) (take n ops)
    stored_are x l k =
        placed_is s at x l k r ops p (omega (arith, count_is x l k)) ∙ ap (λ (m : ℕ). map (compared_at s) (take m ops)) (sym (count_is x l k))

    pub stored_many : n ≤ length ops
    stored_many =
        let q = condition_at_lem s at e n (sym p.reads ∙ h) in
        let c = count_is q.what (from s e) q.is in
        let z = ap length (stored_are q.what (from s e) q.is) ∙ length-map (take n ops) (compared_at s) ∙ length-take n ops in
        omega (arith, c, z)

    -- they stand in the text
    pub stored_near : (i : ℕ) → i < n → get_or ops i 0 ≤ length s
    stored_near i l =
        let q = condition_at_lem s at e n (sym p.reads ∙ h) in
        let same : map (compared_at s) (take n ops) ≡ map (compared_at s) (places_in s (e - at) at) = sym (stored_are q.what (from s e) q.is) ∙ sym (places_read s at e q.what q.is) in
        leb-true (get_or ops i 0) (length s) (all_taken (λ m. leb m (length s)) ops n i (near_all same) stored_many l)
      where
        near_all : map (compared_at s) (take n ops) ≡ map (compared_at s) (places_in s (e - at) at) → all_of (λ m. leb m (length s)) (take n ops) ≡ true
        near_all same = unfold compared_at in
            sym (all_map (λ (x : Compared). leb x.operator.at (length s)) (compared_at s) (take n ops))
            ∙ ap (all_of (λ (x : Compared). leb x.operator.at (length s))) same
            ∙ all_map (λ (x : Compared). leb x.operator.at (length s)) (compared_at s) (places_in s (e - at) at)
            ∙ all_places s (e - at) at

  -- there are more
  pub stored_over : 64 < n → (x : Cond Compared) (l : Left) → condition_in_form (from s at) ≡ some (x, l) → 64 < length (comparisons x)
  stored_over o x l k = omega (arith, count_is x l k)

  -- the number of the condition's comparisons
  pub stored_count : n ≤ 64 → (x : Cond Compared) (l : Left) → condition_in_form (from s at) ≡ some (x, l) → length (comparisons x) ≤ 64
  stored_count o x l k = omega (arith, count_is x l k)

-- a condition that was read is not none
pub read_there : (s : List ℕ) (at e n : ℕ) (r : prelude.Option (ℕ × ℕ)) → r ≡ read_to (condition_in_form (from s at)) → r ≡ Some (e, n) → {A : Type 0} → condition_in_form (from s at) ≡ none → A
read_there s at e n r h k {A} z = absurd (none-ne-some _ (sym z ∙ (condition_at_lem s at e n (sym h ∙ k)).is))

-- what was read and what was not
pub not_both : (r : Cond Compared × Left) {A : Type 0} {o : Option (Cond Compared × Left)} → o ≡ some r → o ≡ none → A
not_both r {A} {o} h k = absurd (none-ne-some _ (sym k ∙ h))

-- ---- the check of the line

-- the form of the line
abbrev pub cond_form_lem : List ℕ → ℕ → ℕ → Cond Compared → Form
cond_form_lem line c r x = cond_role (word_of line c) (word_of line r) x

module _ (d : Doc) (line : List ℕ) (c r : ℕ) (x : Cond Compared) where
  abbrev form : Form
  form = cond_form_lem line c r x

  pub cond_many : 64 ≤ length d.policy.cond_roles → over_bound d form ≡ true
  unfolding over_bound
  cond_many h = rw (le-leb 64 _ h)

  pub cond_wide : 64 < length (comparisons x) → over_bound d form ≡ true
  unfolding over_bound
  cond_wide h = rw (lt-ltb 64 _ h) (or_right (leb 64 (length d.policy.cond_roles)) true refl)

  pub cond_room : length d.policy.cond_roles < 64 → length (comparisons x) ≤ 64 → over_bound d form ≡ false
  unfolding over_bound
  cond_room h k = rw (lt-leb 64 _ h, le-ltb 64 _ k)

  pub cond_taken : (o : Option ℕ) (i : ℕ) → o ≡ cond_role_of d.policy (word_of line c) → o ≡ some i → taken d.policy form ≡ some (word_of line c)
  unfolding taken offending_if there
  cond_taken o i h e = ap (λ (m : Option ℕ). offending_if (there m) (word_of line c)) (sym h ∙ e)

  pub cond_new : none ≡ cond_role_of d.policy (word_of line c) → taken d.policy form ≡ none
  unfolding taken offending_if there
  cond_new h = ap (λ (m : Option ℕ). offending_if (there m) (word_of line c)) (sym h)

  -- what is unknown, by the role that was found
  abbrev unknown_by : Option ℕ → Option Word
  unknown_by o = leftmost (unless (there o) (word_of line r) ∷ missing (usable_for d.policy (or_zero o)) (map (λ y. y.of) (comparisons x)) ∷ [])

  pub role_unknown : none ≡ role_of d.policy (word_of line r) → unknown d.policy form ≡ some (word_of line r)
  unfolding unknown leftmost unless there
  role_unknown h = ap unknown_by (sym h)

  attribute_unknown : (i : ℕ) (ps : List ℕ) → some i ≡ role_of d.policy (word_of line r) → comparisons x ≡ map (compared_at line) ps
      → unknown d.policy form ≡ missing (usable_for d.policy i) (map (λ p. word_of line (next_word line p)) ps)
  unfolding unknown leftmost unless there or_zero compared_at
  attribute_unknown i ps h e =
      ap unknown_by (sym h)
      ∙ leftmost_only (missing (usable_for d.policy i) (map (λ y. y.of) (comparisons x)))
      ∙ ap (missing (usable_for d.policy i)) (ap (map (λ y. y.of)) e ∙ map_map (λ (y : Compared). y.of) (compared_at line) ps)

  types_are : (ps : List ℕ) → comparisons x ≡ map (compared_at line) ps
      → wrong_type d.policy form ≡ leftmost (map (λ p. mistyped (attribute_kind d.policy (word_of line (next_word line p))) (compared_at line p)) ps)
  unfolding wrong_type compared_at
  types_are ps e =
      ap leftmost (ap (map (λ (y : Compared). mistyped (attribute_kind d.policy y.of) y)) e ∙ map_map (λ (y : Compared). mistyped (attribute_kind d.policy y.of) y) (compared_at line) ps)

  pub cond_root : second_root d.policy form ≡ false
  unfolding second_root
  cond_root = refl

  pub cond_values : misfit d.policy form ≡ false
  unfolding misfit
  cond_values = refl

  pub cond_order : broken_range d.policy form ≡ none
  unfolding broken_range
  cond_order = refl

  pub cond_dated : no_such_date d.policy form ≡ none
  unfolding no_such_date
  cond_dated = refl

  pub cond_late : late_attr d.policy form ≡ false
  unfolding late_attr
  cond_late = refl

  pub cond_placed : misplaced d form ≡ false
  unfolding misplaced
  cond_placed = refl

-- the same by the places that were stored
module _ (d : Doc) (line : List ℕ) (c r : ℕ) (x : Cond Compared) (l : Left) (at : ℕ) (k : condition_in_form (from line at) ≡ some (x, l)) (rd : prelude.Option (ℕ × ℕ)) (ops : List ℕ) (p : Placed line at rd ops) (e n : ℕ) (h : rd ≡ Some (e, n)) (few : n ≤ 64) where
  pub unknown_stored : (i : ℕ) → some i ≡ role_of d.policy (word_of line r) → unknown d.policy (cond_form_lem line c r x) ≡ missing (usable_for d.policy i) (map (λ p. word_of line (next_word line p)) (take n ops))
  unknown_stored i g = attribute_unknown d line c r x i (take n ops) g (stored_are line at rd ops p e n h few x l k)

  pub types_stored : wrong_type d.policy (cond_form_lem line c r x) ≡ leftmost (map (λ p. mistyped (attribute_kind d.policy (word_of line (next_word line p))) (compared_at line p)) (take n ops))
  types_stored = types_are d line c r x (take n ops) (stored_are line at rd ops p e n h few x l k)
