-- The compliance law, and what follows for callers. Assumes nothing.
use Prim.Native.Nat.{◌≤◌, ℕ}
use borrow.Author.Tests.{ltb-true, ne_eqb, not-true}
use lib.ListN.{length}
use mathlib.Core.Bool.{Bool, ◌&&◌, and-false, false, not, true, true≢false}
use mathlib.Core.List.{List, []}
use mathlib.Core.Logic.{⊎_elim}
use mathlib.Core.Path.{◌∙◌, ◌≡◌, ap, ap₂, refl, sym}
use native.Mathlib.Omega.{arith}
use Rattle.lists.proofs.ListLaws.{any_find, any_here, any_same}
use Rattle.lists.proofs.Tests.{and_both, and_left, and_right, both, never, one_of, or_left, or_right}
use Rattle.lists.specs.Lists.{any_of, member}
use Rattle.purpose.proofs.Ancestry.{ancestor_le, chain, descends_outside, descends_trans, root_above}
use Rattle.purpose.proofs.Words.{Words, meet_overlap, overlap}
use Rattle.purpose.specs.Compliance.{Grown, Marks, Same, descends, in_tree, intersects, opens, related}
use Rattle.purpose.specs.Meaning.{ClosureOf, admitted, is_above, marks_held}
use Rattle.purpose.specs.Members.{members}
use Rattle.purpose.specs.declared.Closure.{Closure}
use Rattle.purpose.specs.declared.Label.{Label}

-- a closure that is empty outside the tree: meeting it is being in the tree and passing its test
pub meet_closure : (inside : Bool) (f : ℕ → Bool) (closure xs : List ℕ)
    → ((i : ℕ) → member i closure ≡ (inside && f i)) → intersects closure xs ≡ (inside && any_of f xs)
unfolding intersects
meet_closure inside f closure xs e =
    both (intersects closure xs) (inside && any_of f xs)
    (λ h. let w = any_find (λ x. member x xs) closure h in
    and_both inside _ (and_left inside (f w.0) (sym (e w.0) ∙ w.1)) (any_here f xs w.0 w.2 (and_right inside (f w.0) (sym (e w.0) ∙ w.1))))
    (λ h. let w = any_find f xs (and_right inside (any_of f xs) h) in
    any_here (λ x. member x xs) closure w.0 (e w.0 ∙ and_both inside (f w.0) (and_left inside (any_of f xs) h) w.2) w.1)

-- in and the-not: (i && x) && not (i && y) is i && (x && not y)
pub spread : (i x y : Bool) → ((i && x) && not (i && y)) ≡ (i && (x && not y))
spread true x y = refl
spread false x y = refl

-- COMPLIANCE: a label is open for p exactly when its allowed set meets the ancestors of p and its denied set does not meet
-- the relatives of p. The four sets are lists of members, so this holds for any count of words.
pub compliance : (tree : List ℕ) (p : ℕ) (l : Marks) (ancestors relatives : List ℕ)
    → ((a : ℕ) → member a ancestors ≡ (in_tree tree p && descends tree p a))
    → ((d : ℕ) → member d relatives ≡ (in_tree tree p && related tree p d))
    → (intersects ancestors l.allowed && not (intersects relatives l.denied)) ≡ opens tree l p
unfolding opens
compliance tree p l ancestors relatives up near =
    ap₂ (λ (x y : Bool). x && not y)
    (meet_closure (in_tree tree p) (descends tree p) ancestors l.allowed up)
    (meet_closure (in_tree tree p) (related tree p) relatives l.denied near)
    ∙ spread (in_tree tree p) _ _

-- the same on words of 64 bits, for any count of them in each of the four sets: one AND for each word, twice
pub compliance_words : (tree : List ℕ) (p : ℕ) (allowed denied ancestors relatives : List ℕ)
    → ((a : ℕ) → member a (members ancestors) ≡ (in_tree tree p && descends tree p a))
    → ((d : ℕ) → member d (members relatives) ≡ (in_tree tree p && related tree p d))
    → Words ancestors → Words relatives
    → (overlap ancestors allowed && not (overlap relatives denied)) ≡ opens tree (record { allowed = members allowed; denied = members denied }) p
compliance_words tree p allowed denied ancestors relatives up near small small' =
    ap₂ (λ (x y : Bool). x && not y) (sym (meet_overlap ancestors allowed small)) (sym (meet_overlap relatives denied small'))
    ∙ compliance tree p (record { allowed = members allowed; denied = members denied }) (members ancestors) (members relatives) up near

-- what a label test computes with the closure of p is whether the label is open to p
pub admitted_opens : (tree : List ℕ) (p : ℕ) (c : Closure) (l : Label) → ClosureOf tree p c → admitted c l ≡ opens tree (marks_held l) p
unfolding admitted
admitted_opens tree p c l of = compliance tree p (marks_held l) (members c.ancestors) (members c.relatives) of.up of.near

-- what stands above by the closure of p is what p descends from, for a p of the tree
pub above_descends : (tree : List ℕ) (p : ℕ) (c : Closure) (a : ℕ) → ClosureOf tree p c → is_above c a ≡ (in_tree tree p && descends tree p a)
unfolding is_above
above_descends tree p c a of = of.up a

-- a label goes by the members of its sets alone
pub opens_same : (tree : List ℕ) (l m : Marks) (p : ℕ) → Same l.allowed m.allowed → Same l.denied m.denied → opens tree l p ≡ opens tree m p
unfolding opens
opens_same tree l m p s t =
    ap₂ (λ (x y : Bool). in_tree tree p && (x && not y))
    (any_same (descends tree p) (descends tree p) l.allowed m.allowed s (λ i. refl))
    (any_same (related tree p) (related tree p) l.denied m.denied t (λ i. refl))

-- what some set allows of p it allows of every purpose below p
pub allowed_down : (tree : List ℕ) (p q : ℕ) → descends tree q p ≡ true → (xs : List ℕ) → any_of (descends tree p) xs ≡ true → any_of (descends tree q) xs ≡ true
allowed_down tree p q below xs h =
    let w = any_find (descends tree p) xs h in
    any_here (descends tree q) xs w.0 w.1 (descends_trans tree q p w.0 below w.2)

-- what some set denies of a purpose below p it denies of p
pub denied_up : (tree : List ℕ) (p q : ℕ) → descends tree q p ≡ true → (xs : List ℕ) → any_of (related tree q) xs ≡ true → any_of (related tree p) xs ≡ true
denied_up tree p q below xs h =
    let w = any_find (related tree q) xs h in
    any_here (related tree p) xs w.0 w.1
    (⊎_elim (λ e. chain tree q p w.0 below e) (λ e. or_right (descends tree p w.0) _ (descends_trans tree w.0 q p e below)) (one_of (descends tree q w.0) _ w.2))

-- what is open for p is open for every purpose of the tree below p
pub opens_below : (tree : List ℕ) (l : Marks) (p q : ℕ) → in_tree tree q ≡ true → descends tree q p ≡ true → opens tree l p ≡ true → opens tree l q ≡ true
unfolding opens
opens_below tree l p q inside below h = and_both (in_tree tree q) _ inside (and_both _ _ (allowed_down tree p q below l.allowed (and_left _ _ rest)) denied_q)
  where
    rest : (any_of (descends tree p) l.allowed && not (any_of (related tree p) l.denied)) ≡ true
    rest = and_right (in_tree tree p) _ h

    denied_q : not (any_of (related tree q) l.denied) ≡ true
    denied_q =
        ap not (never (any_of (related tree q) l.denied) (λ k.
        true≢false (sym (denied_up tree p q below l.denied k) ∙ not-true (any_of (related tree p) l.denied) (and_right (any_of (descends tree p) l.allowed) _ rest))))

-- an empty allowed set closes every purpose
pub closed_empty : (tree denied : List ℕ) (p : ℕ) → opens tree (record { allowed = []; denied = denied }) p ≡ false
unfolding opens any_of
closed_empty tree denied p = and-false (in_tree tree p)

-- a denied root closes every purpose of a tree that was grown
pub closed_root : (tree : List ℕ) (l : Marks) (p : ℕ) → Grown tree → member 0 l.denied ≡ true → opens tree l p ≡ false
unfolding opens
closed_root tree l p g h =
    never (opens tree l p) (λ o.
    let rest = and_right (in_tree tree p) _ o in
    let below = root_above tree p (ltb-true p (length tree) (and_left (in_tree tree p) _ o)) g in
    true≢false
    (sym (any_here (related tree p) l.denied 0 h (or_left (descends tree p 0) _ below))
    ∙ not-true (any_of (related tree p) l.denied) (and_right (any_of (descends tree p) l.allowed) _ rest)))

-- a member outside the tree has no effect
pub outside_allowed : (tree : List ℕ) (p x : ℕ) → in_tree tree p ≡ true → length tree ≤ x → descends tree p x ≡ false
outside_allowed tree p x h l =
    never (descends tree p x) (λ e. absurd (omega (arith, ancestor_le tree p x e, ltb-true p (length tree) h)))

pub outside_denied : (tree : List ℕ) (p x : ℕ) → in_tree tree p ≡ true → length tree ≤ x → related tree p x ≡ false
outside_denied tree p x h l =
    rw (outside_allowed tree p x h l)
    (descends_outside tree x p l ∙ ne_eqb x p (λ e. absurd (omega (arith, ltb-true p (length tree) h))))
