-- What it is for a user form to give each attribute of its role once and no other: read out, and by counting, as code finds it
-- where names are unique. Assumes nothing.
use Prim.Native.Nat.{◌≤◌, ℕ}
use borrow.Author.Tests.{eq-eqb, eqb-true, not-true}
use lib.Dec.{eqb}
use lib.ListN.{get_elem?, length}
use mathlib.Core.Bool.{Bool, ◌&&◌, ◌||◌, false, not, true}
use mathlib.Core.List.{List}
use mathlib.Core.Logic.{◌↔◌}
use mathlib.Core.Option.{Option, bind, none, some}
use mathlib.Core.Path.{◌∙◌, ◌≡◌, ap, refl, sym}
use native.Mathlib.Nat.{le_of_eq}
use native.Mathlib.Omega.{arith}
use Rattle.document.specs.Lookup.{attribute_named, attribute_of, has_attribute}
use Rattle.document.specs.Policy.{Attribute, Policy}
use Rattle.document.specs.ValueFaults.{given_once, gives_all, is_attribute_of}
use Rattle.lists.proofs.Distinct.{no_two_count}
use Rattle.lists.proofs.ListLaws.{all_everywhere, all_here, all_keep, count_apart, count_keep, count_least, find_index_found, holds_of_some, there_none, total, total_filled, total_ones, total_pairs}
use Rattle.lists.proofs.Tests.{and_both, and_left, and_right, both, or_cases, true_not_false}
use Rattle.lists.specs.Distinct.{NoTwoSame}
use Rattle.lists.specs.Lists.{all_of, count_of, find_index, holds_of, keep, there}
use Rattle.text.proofs.NameLaws.{called_other, called_same, same_name_sym, same_name_trans}
use Rattle.text.proofs.OffendingLaws.{none_repeated, repeated_none, same_word}
use Rattle.text.specs.Names.{same_name}
use Rattle.text.specs.Offending.{repeated}
use Rattle.text.specs.Words.{Word, is_called}

-- ---- the reading

-- each word names an attribute that the role has, and each attribute that the role has is named by exactly one word
pub record GivesEach (d : Policy) (r : ℕ) (ws : List Word) : Type 0 where
  pub own : (i : ℕ) (w : Word) → get_elem? ws i ≡ some w → (a : Attribute) × (attribute_named d w ≡ some a) × (has_attribute d r a ≡ true)
  pub once : (i : ℕ) (a : Attribute) → get_elem? d.attributes i ≡ some a → has_attribute d r a ≡ true → count_of (λ w. is_called w a.name) ws ≡ 1

module _ (d : Policy) (r : ℕ) (ws : List Word) where
  -- the attributes that the role has are given once
  once_given : all_of (given_once ws) (keep (has_attribute d r) d.attributes) ≡ true
      → (i : ℕ) (a : Attribute) → get_elem? d.attributes i ≡ some a → has_attribute d r a ≡ true → count_of (λ w. is_called w a.name) ws ≡ 1
  unfolding given_once
  once_given h i a e k =
      eqb-true _ 1 (or_cases (not (has_attribute d r a)) (given_once ws a)
      (all_here (λ a. not (has_attribute d r a) || given_once ws a) d.attributes (sym (all_keep (given_once ws) (has_attribute d r) d.attributes) ∙ h) i a e)
      (λ n. true_not_false k (not-true _ n)) (λ g. g))

  given_once_lem : ((i : ℕ) (a : Attribute) → get_elem? d.attributes i ≡ some a → has_attribute d r a ≡ true → count_of (λ w. is_called w a.name) ws ≡ 1)
      → all_of (given_once ws) (keep (has_attribute d r) d.attributes) ≡ true
  unfolding given_once
  given_once_lem h =
      all_keep (given_once ws) (has_attribute d r) d.attributes
      ∙ all_everywhere (λ a. not (has_attribute d r a) || given_once ws a) d.attributes (λ i a e. go i a e (has_attribute d r a) refl)
    where
      go : (i : ℕ) (a : Attribute) → get_elem? d.attributes i ≡ some a → (b : Bool) → has_attribute d r a ≡ b → (not (has_attribute d r a) || given_once ws a) ≡ true
      go i a e true k = rw k (eq-eqb _ 1 (h i a e k))
      go i a e false k = rw k

  -- the test holds exactly where that reading does, in any policy
  pub gives_all_reads : (gives_all d r ws ≡ true) ↔ GivesEach d r ws
  unfolding gives_all is_attribute_of
  gives_all_reads = (
    λ h. record {
      own = λ i w e. holds_of_some (has_attribute d r) (attribute_named d w) (all_here (is_attribute_of d r) ws (and_left (all_of (is_attribute_of d r) ws) _ h) i w e);
      once = once_given (and_right (all_of (is_attribute_of d r) ws) _ h);
    },
    λ g. and_both _ _
        (all_everywhere (is_attribute_of d r) ws (λ i w e. let x = g.own i w e in ap (holds_of (has_attribute d r)) x.1 ∙ unfold holds_of in x.2))
        (given_once_lem g.once),
  )

-- ---- by counting

-- a word that names an attribute of the role: which, and where
named_where : (d : Policy) (r : ℕ) (w : Word) → is_attribute_of d r w ≡ true
    → (k : ℕ) × (a : Attribute) × (get_elem? d.attributes k ≡ some a) × (is_called w a.name ≡ true) × (has_attribute d r a ≡ true)
unfolding is_attribute_of attribute_named attribute_of bind holds_of
named_where d r w h = go (find_index (λ a. is_called w a.name) d.attributes) refl h
  where
    go : (o : Option ℕ) → find_index (λ a. is_called w a.name) d.attributes ≡ o → holds_of (has_attribute d r) (bind o (get_elem? d.attributes)) ≡ true
        → (k : ℕ) × (a : Attribute) × (get_elem? d.attributes k ≡ some a) × (is_called w a.name ≡ true) × (has_attribute d r a ≡ true)
    go none e h = true_not_false h refl
    go (some k) e h =
        let x = holds_of_some (has_attribute d r) (get_elem? d.attributes k) h in
        (k, x.0, x.1, rw x.1 at (find_index_found (λ a. is_called w a.name) d.attributes k e).0, x.2)

module _ (d : Policy) (r : ℕ) (ws : List Word) (unique : NoTwoSame (λ x y. same_name x.name y.name) d.attributes) where
  -- such a word names one of the role's attributes only
  named_one : (w : Word) → is_attribute_of d r w ≡ true → count_of (λ a. is_called w a.name) (keep (has_attribute d r) d.attributes) ≡ 1
  named_one w h =
      let x = named_where d r w h in
      let least : 1 ≤ count_of (λ a. has_attribute d r a && is_called w a.name) d.attributes =
      count_least (λ a. has_attribute d r a && is_called w a.name) d.attributes x.0 x.1 x.2 (and_both (has_attribute d r x.1) _ x.4 x.3) in
      let most : count_of (λ a. has_attribute d r a && is_called w a.name) d.attributes ≤ 1 =
      no_two_count (λ x y. same_name x.name y.name) (λ a. has_attribute d r a && is_called w a.name) one_name d.attributes unique in
      omega (arith, count_keep (λ a. is_called w a.name) (has_attribute d r) d.attributes, least, most)
    where
      one_name : (a b : Attribute) → (has_attribute d r a && is_called w a.name) ≡ true → (has_attribute d r b && is_called w b.name) ≡ true → same_name a.name b.name ≡ true
      one_name a b p q = unfold is_called in
          same_name_trans a.name w.bytes b.name (same_name_sym w.bytes a.name (and_right (has_attribute d r a) _ p)) (and_right (has_attribute d r b) _ q)

  -- so as many words as there are name the role's attributes
  named_total : all_of (is_attribute_of d r) ws ≡ true → total (λ a. count_of (λ w. is_called w a.name) ws) (keep (has_attribute d r) d.attributes) ≡ length ws
  named_total h = total_pairs (λ w a. is_called w a.name) ws (keep (has_attribute d r) d.attributes) (λ i w e. named_one w (all_here (is_attribute_of d r) ws h i w e))

  -- where each is given once, no two words are the same, and they are as many
  once_counts : all_of (is_attribute_of d r) ws ≡ true → all_of (given_once ws) (keep (has_attribute d r) d.attributes) ≡ true
      → (repeated ws ≡ none) × (length ws ≡ count_of (has_attribute d r) d.attributes)
  unfolding given_once count_of
  once_counts own once = (
    none_repeated ws (record {
      alone = λ i j v w e k s.
          let x = named_where d r v (all_here (is_attribute_of d r) ws own i v e) in
          count_apart (λ u. is_called u x.1.name) ws (le_of_eq (once_given d r ws once x.0 x.1 x.2 x.4)) i j v w e k x.3 (called_other v w x.1.name s x.3);
    }),
    sym (named_total own) ∙ total_ones (λ a. count_of (λ w. is_called w a.name) ws) (keep (has_attribute d r) d.attributes)
        (λ i a e. eqb-true _ 1 (all_here (given_once ws) (keep (has_attribute d r) d.attributes) once i a e)),
  )

  -- where no two words are the same and they are as many, each is given once
  counts_once : all_of (is_attribute_of d r) ws ≡ true → repeated ws ≡ none → length ws ≡ count_of (has_attribute d r) d.attributes
      → all_of (given_once ws) (keep (has_attribute d r) d.attributes) ≡ true
  unfolding given_once count_of
  counts_once own free same =
      all_everywhere (given_once ws) (keep (has_attribute d r) d.attributes) (λ i a e. eq-eqb _ 1
      (total_filled (λ a. count_of (λ w. is_called w a.name) ws) (keep (has_attribute d r) d.attributes)
      (λ i a e. no_two_count same_word (λ w. is_called w a.name) (λ v w p q. called_same v w a.name p q) ws (repeated_none ws free))
      (le_of_eq (sym same ∙ sym (named_total own))) i a e))

  -- the test by counting, where no two attributes have the same name: no word repeats, each names an attribute of the role, and
  -- they are as many as the role has
  pub gives_all_counts : gives_all d r ws
      ≡ (not (there (repeated ws)) && (all_of (λ w. holds_of (has_attribute d r) (attribute_named d w)) ws && eqb (length ws) (count_of (has_attribute d r) d.attributes)))
  unfolding gives_all is_attribute_of
  gives_all_counts = both (gives_all d r ws) _
      (λ h. let x = once_counts (and_left own _ h) (and_right own _ h) in
      and_both free _ (unfold there in ap (λ (o : Option Word). not (there o)) x.0) (and_both _ _ (and_left own _ h) (eq-eqb _ _ x.1)))
      (λ h. let rest = and_right free _ h in
      and_both _ _ (and_left own _ rest) (counts_once (and_left own _ rest) (there_none _ (not-true _ (and_left free _ h))) (eqb-true _ _ (and_right own _ rest))))
    where
      own : Bool
      own = all_of (is_attribute_of d r) ws

      free : Bool
      free = not (there (repeated ws))
