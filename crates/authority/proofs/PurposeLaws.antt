-- The tree of purposes as it is built, and that what stands as the first one's parent makes no difference. Assumes nothing.
use Prim.Native.Nat.{◌*◌, ◌+◌, ◌-◌, ◌<◌, ◌≤◌, suc, zero, ℕ}
use borrow.Author.Tests.{le-ltb, ltb-false, ltb-true}
use lib.Dec.{eqb, ltb}
use lib.ListN.{get_or-eq_default, drop, get_or, length, length-drop, take}
use lib.Seq.{ext_get_or, get_or-drop, get_or-take, length-take-le}
use mathlib.Core.Bool.{◌&&◌, ◌||◌}
use mathlib.Core.List.{List, [], ◌∷◌}
use mathlib.Core.Logic.{⊎_elim}
use mathlib.Core.Path.{◌∙◌, ◌≡◌, ap, refl, subst, sym}
use native.Mathlib.Nat.{eq-zero-or-pos}
use native.Mathlib.Omega.{arith}
use Rattle.authority.specs.Purposes.{parent_in}
use Rattle.document.specs.Policy.{Node}
use Rattle.document.specs.Policy as policy
use Rattle.workspace.proofs.TabulatedLaws.{length_tabulated, tabulated_get_or}
use Rattle.principals.proofs.NodeLaws.{tree_length, tree_parent}
use Rattle.principals.specs.Nodes.{Nodes}
use Rattle.workspace.specs.Tabulated.{tabulated}
use Rattle.lists.proofs.Tests.{decide}
use Rattle.purpose.specs.Compliance.{Grown, climbs, descends, parent}
use Rattle.purpose.proofs.Growing.{tree_from_all}
use Rattle.purpose.specs.Meaning.{ClosureOf, tree_from}
use Rattle.purpose.specs.Members.{limit}
use Rattle.purpose.specs.declared.Closure.{Closure}

-- ---- two trees that differ at most in the first one's parent

module _ (t s : List ℕ) (same : (p : ℕ) → 0 < p → parent t p ≡ parent s p) where
  climbs_same : (n p a : ℕ) → climbs n t p a ≡ climbs n s p a
  unfolding climbs
  climbs_same zero p a = refl
  climbs_same (suc n) p a = ⊎_elim first (λ l. later l (climbs_same n (parent t p) a)) (eq-zero-or-pos p)
    where
      first : p ≡ 0 → (eqb p a || (ltb (parent t p) p && climbs n t (parent t p) a)) ≡ (eqb p a || (ltb (parent s p) p && climbs n s (parent s p) a))
      first e = rw (le-ltb (parent t p) p (omega (arith, e)), le-ltb (parent s p) p (omega (arith, e)))

      later : 0 < p → climbs n t (parent t p) a ≡ climbs n s (parent t p) a → (eqb p a || (ltb (parent t p) p && climbs n t (parent t p) a)) ≡ (eqb p a || (ltb (parent s p) p && climbs n s (parent s p) a))
      later l e = ap (λ b. eqb p a || (ltb (parent t p) p && b)) e ∙ ap (λ q. eqb p a || (ltb q p && climbs n s q a)) (same p l)

  descends_same : (p a : ℕ) → descends t p a ≡ descends s p a
  unfolding descends
  descends_same p a = climbs_same p p a

  pub closure_same : length t ≡ length s → (p : ℕ) (c : Closure) → ClosureOf t p c → ClosureOf s p c
  closure_same e p c h = record {
    up = λ a. h.up a ∙ (λ j. ltb p (e j) && descends_same p a j);
    near = λ d. h.near d ∙ (λ j. ltb p (e j) && (descends_same p d j || descends_same d p j));
  }

-- ---- the tree in the array

-- the first has none, and the parent of another stands in its cell
parent_first : (ws : List ℕ) → parent_in ws 0 ≡ 0
unfolding parent_in
parent_first ws = refl

parent_later : (ws : List ℕ) (i : ℕ) → 0 < i → parent_in ws i ≡ get_or ws (limit + i) 0
unfolding parent_in
parent_later ws zero l = absurd (omega (arith, l))
parent_later ws (suc i) l = refl

module _ {text ws : List ℕ} {k : ℕ} {ns : List Node} (n : Nodes limit text ws k ns) where
  parent_same : (p : ℕ) → 0 < p → parent (tabulated (parent_in ws) k) p ≡ parent (policy.tree_of ns) p
  parent_same p pos = ⊎_elim (λ e. inside (ltb-true p k e)) (λ e. outside (ltb-false p k e)) (decide (ltb p k))
    where
      inside : p < k → parent (tabulated (parent_in ws) k) p ≡ parent (policy.tree_of ns) p
      inside l = tabulated_get_or (parent_in ws) k p p l ∙ parent_later ws p pos ∙ sym (tree_parent n p l)

      outside : k ≤ p → parent (tabulated (parent_in ws) k) p ≡ parent (policy.tree_of ns) p
      outside l =
          get_or-eq_default (tabulated (parent_in ws) k) p (subst (λ m. m ≤ p) (sym (length_tabulated (parent_in ws) k)) l)
          ∙ sym (get_or-eq_default (policy.tree_of ns) p (subst (λ m. m ≤ p) (sym (tree_length n)) l))

  -- the closure in the tree as it is built is that in the document's
  pub closure_listed : (t : List ℕ) → t ≡ tabulated (parent_in ws) k → (p : ℕ) (c : Closure) → ClosureOf t p c → ClosureOf (policy.tree_of ns) p c
  closure_listed t e p c h =
      closure_same (tabulated (parent_in ws) k) (policy.tree_of ns) parent_same (length_tabulated (parent_in ws) k ∙ sym (tree_length n)) p c
      (subst (λ s. ClosureOf s p c) e h)

  -- every parent is smaller than its child there too
  grown_listed : Grown (policy.tree_of ns) → Grown (tabulated (parent_in ws) k)
  grown_listed g p pos l =
      subst (λ q. q < p) (sym (parent_same p pos))
      (g p pos (subst (λ m. p < m) (length_tabulated (parent_in ws) k ∙ sym (tree_length n)) l))

-- parents that are those of the array, but for the first, grow to the listed tree
module _ (ws : List ℕ) (k : ℕ) (few : k ≤ limit) (g : Grown (tabulated (parent_in ws) k)) where
  rooted : (ps : List ℕ) → length ps ≡ k → ((i : ℕ) → i < k → get_or ps i 0 ≡ get_or ws (limit + i) 0) → tree_from ps ≡ tabulated (parent_in ws) k
  unfolding tabulated tree_from
  rooted [] e here = subst (λ (m : ℕ). [] ≡ tabulated (parent_in ws) m) e refl
  rooted (q ∷ ps) e here =
      tree_from_all q ps (subst (λ (m : ℕ). m ≤ limit) (sym e) few) (subst (λ (t : List ℕ). Grown t) (sym same) g) ∙ same
    where
      entry : (i : ℕ) → i < length (0 ∷ ps) → get_or (0 ∷ ps) i 0 ≡ get_or (tabulated (parent_in ws) k) i 0
      entry zero l = sym (tabulated_get_or (parent_in ws) k 0 0 (subst (λ m. 0 < m) e l) ∙ parent_first ws)
      entry (suc i) l =
          let inside : suc i < k = subst (λ m. suc i < m) e l in
          here (suc i) inside ∙ sym (tabulated_get_or (parent_in ws) k (suc i) 0 inside ∙ parent_later ws (suc i) (omega arith))

      same : 0 ∷ ps ≡ tabulated (parent_in ws) k
      same = ext_get_or 0 (0 ∷ ps) (tabulated (parent_in ws) k) (e ∙ sym (length_tabulated (parent_in ws) k)) entry

-- what grows from the parents, which stand behind the names, is the tree of the purposes
pub tree_grown : {text ws : List ℕ} {k : ℕ} {ns : List Node} → Nodes limit text ws k ns → Grown (policy.tree_of ns) → 2 * limit ≤ length ws
    → tree_from (take k (take (length ws - limit) (drop limit ws))) ≡ tabulated (parent_in ws) k
tree_grown {text} {ws} {k} {ns} n g full =
    let behind = drop limit ws in
    let long : length (take (length ws - limit) (drop limit ws)) ≡ length ws - limit = length-take-le (length ws - limit) (drop limit ws) (omega (arith, length-drop limit ws)) in
    rooted ws k n.few (grown_listed n g) (take k (take (length ws - limit) behind))
    (length-take-le k (take (length ws - limit) behind) (omega (arith, long, n.few, full)))
    (λ i l. get_or-take k (take (length ws - limit) behind) i 0 l ∙ get_or-take (length ws - limit) behind i 0 (omega (arith, l, full, n.few)) ∙ get_or-drop limit ws i 0)
