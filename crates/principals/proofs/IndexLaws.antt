-- The relations when other things grow: users and conditional roles mention a policy only through its attributes, of which those compared
-- are known; the relations before any line, and how many there are. Assumes nothing.
use Prim.Native.Nat.{◌+◌, ◌<◌, ℕ}
use borrow.Author.Count.{below_none}
use lib.ListN.{get_or, get_elem?, length, length-append}
use mathlib.Core.Bool.{Bool, true}
use mathlib.Core.List.{List, [], ◌++◌, append-nil, map}
use mathlib.Core.Option
use mathlib.Core.Option.{bind}
use mathlib.Core.Path.{◌∙◌, ◌≡◌, ap, refl, sym}
use native.Mathlib.Omega.{arith}
use Rattle.condition.specs.Cond.{Cond, Conds, both, comparisons, comparisons_of, either, last, map_cond, map_conds, more, negate, test}
use Rattle.condition.specs.CondForm.{Compared}
use Rattle.condition.specs.Kinds.{numbers}
use Rattle.document.specs.Lookup.{attribute_kind, attribute_named, attribute_of}
use Rattle.document.specs.Meaning.{attribute_comparison, given_of}
use Rattle.document.specs.Policy.{Attribute, CondRole, Node, Policy, User, clock_attributes}
use Rattle.form.specs.Form.{GivenForm}
use Rattle.form.specs.Walks.{givens_at}
use Rattle.workspace.proofs.TabulatedLaws.{length_tabulated, tabulated_same}
use Rattle.principals.specs.Attributes.{Attributes, attribute_in}
use Rattle.workspace.specs.Cells.{line_in}
use Rattle.principals.specs.CondRoles.{CondRoles, attributes_known, cond_role_in, condition_in}
use Rattle.principals.specs.Nodes.{Nodes, node_in}
use Rattle.principals.specs.Users.{Users, user_in}
use Rattle.workspace.specs.Tabulated.{tabulated}
use Rattle.lists.proofs.ListLaws.{all_everywhere, all_here, all_parts, find_index_found, find_index_from_append, get_elem?_inside_append, there_some}
use Rattle.lists.proofs.Tests.{and_left}
use Rattle.lists.specs.Lists.{all_of, find_index, or_zero, there}
use Rattle.text.specs.Words.{Word, is_called, word_at}

-- ---- conditions with their comparisons replaced: what agrees on the comparisons gives the same

module _ {C D : Type 0} (p : C → Bool) (f g : C → D) (agree : (x : C) → p x ≡ true → f x ≡ g x) where
  mutual
    unfolding map_cond comparisons all_of

    map_cond_agree : (c : Cond C) → all_of p (comparisons c) ≡ true → map_cond f c ≡ map_cond g c
    map_cond_agree (test c) h = ap test (agree c (and_left (p c) true h))
    map_cond_agree (negate c) h = ap negate (map_cond_agree c h)
    map_cond_agree (both cs) h = ap both (map_conds_agree cs h)
    map_cond_agree (either cs) h = ap either (map_conds_agree cs h)

    map_conds_agree : (cs : Conds C) → all_of p (comparisons_of cs) ≡ true → map_conds f cs ≡ map_conds g cs
    map_conds_agree (last c) h = ap last (map_cond_agree c h)
    map_conds_agree (more c cs) h =
        λ j. more (map_cond_agree c (all_parts p (comparisons c) (comparisons_of cs) h).0 j) (map_conds_agree cs (all_parts p (comparisons c) (comparisons_of cs) h).1 j)

-- ---- the policy e has the attributes of d, and perhaps more behind them

module _ (d e : Policy) (new : List Attribute) (grown : e.attributes ≡ d.attributes ++ new) where
  -- a known attribute keeps its number
  pub attribute_same : (w : Word) → there (attribute_of d w) ≡ true → attribute_of e w ≡ attribute_of d w
  unfolding attribute_of find_index
  attribute_same w h =
      ap (find_index (λ (x : Attribute). is_called w x.name)) grown
      ∙ find_index_from_append 0 (λ (x : Attribute). is_called w x.name) d.attributes new (or_zero (attribute_of d w)) (there_some (attribute_of d w) h)
      ∙ sym (there_some (attribute_of d w) h)

  -- and its type
  pub attribute_kind_same : (w : Word) → there (attribute_of d w) ≡ true → attribute_kind e w ≡ attribute_kind d w
  unfolding attribute_kind attribute_named bind
  attribute_kind_same w h =
      ap (λ o. Option.get_or (Option.map (λ (a : Attribute). a.kind) o) numbers)
      (ap (λ o. bind o (get_elem? e.attributes)) (attribute_same w h ∙ there_some (attribute_of d w) h)
      ∙ ap (λ l. get_elem? l (or_zero (attribute_of d w))) grown
      ∙ get_elem?_inside_append d.attributes new (or_zero (attribute_of d w)) inside
      ∙ sym (ap (λ o. bind o (get_elem? d.attributes)) (there_some (attribute_of d w) h)))
    where
      inside : or_zero (attribute_of d w) < length d.attributes
      inside = unfold attribute_of in (find_index_found (λ (x : Attribute). is_called w x.name) d.attributes (or_zero (attribute_of d w)) (there_some (attribute_of d w) h)).1

  comparison_same : (x : Compared) → there (attribute_of d x.of) ≡ true → attribute_comparison e x ≡ attribute_comparison d x
  unfolding attribute_comparison
  comparison_same x h = λ j. record {
    of = or_zero (attribute_same x.of h j);
    kind = attribute_kind_same x.of h j;
    op = x.op;
    value = x.value.bytes;
  }

  -- what is known stays known
  known_grown : (c : Cond Compared) → attributes_known d c ≡ true → attributes_known e c ≡ true
  unfolding attributes_known
  known_grown c h =
      all_everywhere (λ (x : Compared). there (attribute_of e x.of)) (comparisons c)
      (λ i x q. let k : there (attribute_of d x.of) ≡ true = all_here (λ (x : Compared). there (attribute_of d x.of)) (comparisons c) h i x q in
      ap there (attribute_same x.of k) ∙ k)

  cond_same : (text ws : List ℕ) (i : ℕ) → attributes_known d (condition_in text ws i) ≡ true → cond_role_in e text ws i ≡ cond_role_in d text ws i
  unfolding cond_role_in attributes_known
  cond_same text ws i h =
      ap {B = CondRole} (λ c. record { name = word_at text (get_or ws i 0); role = get_or ws (64 + i) 0; condition = c })
      (map_cond_agree (λ (x : Compared). there (attribute_of d x.of)) (attribute_comparison e) (attribute_comparison d) comparison_same (condition_in text ws i) h)

  -- conditional roles stay where attributes are added behind
  pub conds_grown : {text ws : List ℕ} {k : ℕ} {cs : List CondRole} → CondRoles d text ws k cs → CondRoles e text ws k cs
  conds_grown {text} {ws} {k} n = record {
    few = n.few;
    are = tabulated_same (cond_role_in e text ws) (cond_role_in d text ws) k (λ i l. cond_same text ws i (n.known i l)) ∙ n.are;
    known = λ i l. known_grown (condition_in text ws i) (n.known i l);
    reads = n.reads;
    printed = n.printed;
  }

-- ---- the policy e has the attributes of d

module _ (d e : Policy) (same : e.attributes ≡ d.attributes) where
  pub conds_same : {text ws : List ℕ} {k : ℕ} {cs : List CondRole} → CondRoles d text ws k cs → CondRoles e text ws k cs
  conds_same = conds_grown d e [] (same ∙ sym (append-nil d.attributes))

  given_same : (g : GivenForm) → given_of e g ≡ given_of d g
  unfolding given_of attribute_of
  given_same g = λ j. record {
    attribute = or_zero (find_index (λ (x : Attribute). is_called g.attribute x.name) (same j));
    value = g.value.bytes;
  }

  user_same : (text ws : List ℕ) (i : ℕ) → user_in e text ws i ≡ user_in d text ws i
  unfolding user_in
  user_same text ws i = λ j. record {
    name = word_at text (get_or ws i 0);
    role = get_or ws (256 + i) 0;
    values = map (λ g. given_same g j) (givens_at (line_in text (get_or ws (512 + i) 0) (get_or ws (768 + i) 0)) (get_or ws (1024 + i) 0));
  }

  pub users_same : {text ws : List ℕ} {k : ℕ} {us : List User} → Users d text ws k us → Users e text ws k us
  users_same {text} {ws} {k} n = record {
    few = n.few;
    are = tabulated_same (user_in e text ws) (user_in d text ws) k (λ i l. user_same text ws i) ∙ n.are;
    printed = n.printed;
  }

-- where there is no user, any policy will do
pub users_none : (d e : Policy) {text ws : List ℕ} {us : List User} → Users d text ws 0 us → Users e text ws 0 us
unfolding tabulated
users_none d e n = record { few = n.few; are = n.are; printed = n.printed }

-- ---- before any line

pub nodes_start : (room : ℕ) (text ws : List ℕ) → Nodes room text ws 0 []
unfolding tabulated
nodes_start room text ws = record { few = omega arith; are = refl; hashed = below_none _; first = below_none _ }

pub attributes_start : (text ws : List ℕ) → Attributes text ws 0 clock_attributes
unfolding tabulated
attributes_start text ws = record { few = omega arith; are = append-nil clock_attributes }

pub users_start : (d : Policy) (text ws : List ℕ) → Users d text ws 0 []
unfolding tabulated
users_start d text ws = record { few = omega arith; are = refl; printed = below_none _ }

pub conds_start : (d : Policy) (text ws : List ℕ) → CondRoles d text ws 0 []
unfolding tabulated
conds_start d text ws = record { few = omega arith; are = refl; known = below_none _; reads = below_none _; printed = below_none _ }

-- ---- how many there are

pub nodes_length : {room : ℕ} {text ws : List ℕ} {k : ℕ} {ns : List Node} → Nodes room text ws k ns → length ns ≡ k
nodes_length {room} {text} {ws} {k} n = ap length (sym n.are) ∙ length_tabulated (node_in room text ws) k

pub attributes_length : {text ws : List ℕ} {k : ℕ} {xs : List Attribute} → Attributes text ws k xs → length xs ≡ 3 + k
attributes_length {text} {ws} {k} n =
    ap length (sym n.are) ∙ length-append clock_attributes (tabulated (attribute_in text ws) k) ∙ (unfold clock_attributes in ap (λ m. 3 + m) (length_tabulated (attribute_in text ws) k))

pub users_length : {d : Policy} {text ws : List ℕ} {k : ℕ} {us : List User} → Users d text ws k us → length us ≡ k
users_length {d} {text} {ws} {k} n = ap length (sym n.are) ∙ length_tabulated (user_in d text ws) k

pub conds_length : {d : Policy} {text ws : List ℕ} {k : ℕ} {cs : List CondRole} → CondRoles d text ws k cs → length cs ≡ k
conds_length {d} {text} {ws} {k} n = ap length (sym n.are) ∙ length_tabulated (cond_role_in d text ws) k
