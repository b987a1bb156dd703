-- Labels that come down: figure 4 of 000 merges sets, and the code merges two facts for one purpose. Assumes nothing.
use Prim.Native.Nat.{ℕ}
use borrow.Author.Tests.{eqb-true, lt-ltb, ltb-true, not-true}
use lib.Dec.{eqb}
use lib.ListN.{length}
use mathlib.Core.Bool.{Bool, ◌&&◌, ◌||◌, and-false, and-true, cond, false, not, or-false, or-true, true, true≢false}
use mathlib.Core.List.{List, [], ◌∷◌}
use mathlib.Core.Logic.{⊎_elim}
use mathlib.Core.Path.{◌∙◌, ◌≡◌, ap, ap₂, refl, sym}
use native.Mathlib.Omega.{arith}
use Rattle.lists.proofs.ListLaws.{member_append}
use Rattle.lists.proofs.Tests.{and_both, and_left, and_right, decide, never, one_of, or_left, or_right}
use Rattle.lists.specs.Lists.{any_of, keep, member}
use Rattle.purpose.proofs.Ancestry.{ancestor_le}
use Rattle.purpose.proofs.Compliance.{allowed_down, denied_up, meet_closure, spread}
use Rattle.purpose.proofs.Lists.{member_cond, member_passing}
use Rattle.purpose.specs.Compliance.{Marks, descends, in_tree, opens, related}
use Rattle.purpose.specs.Meaning.{ClosureOf, marks_held}
use Rattle.purpose.specs.Members.{members}
use Rattle.purpose.specs.Nest.{closed_both_ways, closed_down, closed_sets, merged_over, nest_opens, open_in_sets, unmarked, weak_sets, without}
use Rattle.purpose.specs.Verdicts.{first_said, open_by, over, silent, verdict, verdict_by}
use Rattle.purpose.specs.declared.Closure.{Closure}
use Rattle.purpose.specs.declared.Label.{Label}
use Rattle.purpose.specs.declared.Verdict.{Verdict}

-- ---- one label

-- a label is open by its verdict: allowed and not denied
pub opens_verdict : (tree : List ℕ) (l : Marks) (p : ℕ) → opens tree l p ≡ ((verdict tree l p).allowed && not (verdict tree l p).denied)
unfolding opens verdict
opens_verdict tree l p = sym (spread (in_tree tree p) (any_of (descends tree p) l.allowed) (any_of (related tree p) l.denied))

-- the verdict that code computes with the closure of p is the label's verdict on p
pub verdict_meets : (tree : List ℕ) (p : ℕ) (c : Closure) (l : Label) → ClosureOf tree p c → verdict_by c l ≡ verdict tree (marks_held l) p
unfolding verdict verdict_by
verdict_meets tree p c l of =
    λ i. record {
      allowed = meet_closure (in_tree tree p) (descends tree p) (members c.ancestors) (members l.allowed) of.up i;
      denied = meet_closure (in_tree tree p) (related tree p) (members c.relatives) (members l.denied) of.near i;
    }

-- no label has a verdict that says nothing
pub verdict_none : (tree : List ℕ) (p : ℕ) → verdict tree unmarked p ≡ silent
unfolding verdict unmarked silent any_of
verdict_none tree p = λ i. record { allowed = and-false (in_tree tree p) i; denied = and-false (in_tree tree p) i }

-- ---- sets

-- what sets say of p
abbrev pub in_sets : Marks → ℕ → Verdict
in_sets s p = record { allowed = member p s.allowed; denied = member p s.denied }

-- the members that are kept
keep_one : (f : ℕ → Bool) (x i : ℕ) (m : Bool) → (f x && eqb i x || m && f i) ≡ ((eqb i x || m) && f i)
keep_one f x i m = ⊎_elim (λ e. here e) (λ e. there e) (decide (eqb i x))
  where
    go : (b n : Bool) → (b && true || n && b) ≡ b
    go true n = refl
    go false true = refl
    go false false = refl

    here : eqb i x ≡ true → (f x && eqb i x || m && f i) ≡ ((eqb i x || m) && f i)
    here e = rw (e, ap f (sym (eqb-true i x e))) (go (f i) m)

    there : eqb i x ≡ false → (f x && eqb i x || m && f i) ≡ ((eqb i x || m) && f i)
    there e = simp (e, and-false)

member_keep : (f : ℕ → Bool) (xs : List ℕ) (i : ℕ) → member i (keep f xs) ≡ (member i xs && f i)
unfolding keep any_of member
member_keep f [] i = refl
member_keep f (x ∷ xs) i =
    member_cond (f x) i x (keep f xs)
    ∙ ap (λ (b : Bool). f x && eqb i x || b) (member_keep f xs i)
    ∙ keep_one f x i (member i xs)

pub in_closed : (tree : List ℕ) (l : Marks) (p : ℕ) → in_sets (closed_sets tree l) p ≡ verdict tree l p
unfolding closed_sets closed_down closed_both_ways verdict
in_closed tree l p =
    λ i. record {
      allowed = member_passing (λ q. any_of (descends tree q) l.allowed) (length tree) p i;
      denied = member_passing (λ q. any_of (related tree q) l.denied) (length tree) p i;
    }

pub in_merged : (upper lower : Marks) (p : ℕ) → in_sets (merged_over upper lower) p ≡ over (in_sets upper p) (in_sets lower p)
unfolding merged_over over without
in_merged upper lower p =
    λ i. record {
      allowed = member_append p upper.allowed lower.allowed i;
      denied = (member_append p (without upper.denied lower.allowed) lower.denied ∙ ap (λ (b : Bool). b || member p lower.denied) (member_keep (λ x. not (member x lower.allowed)) upper.denied p)) i;
    }

-- membership of p in the merged sets is the merge of the verdicts on p
pub in_weak : (tree : List ℕ) (table row cell : Marks) (p : ℕ) → in_sets (weak_sets tree table row cell) p ≡ over (over (verdict tree table p) (verdict tree row p)) (verdict tree cell p)
unfolding weak_sets
in_weak tree table row cell p =
    in_merged (merged_over (closed_sets tree table) (closed_sets tree row)) (closed_sets tree cell) p
    ∙ ap₂ over (in_merged (closed_sets tree table) (closed_sets tree row) p ∙ ap₂ over (in_closed tree table p) (in_closed tree row p)) (in_closed tree cell p)

-- NEST: a cell of a nest table is open to p by the sets exactly where it is by the verdicts on p, merged in the same order
pub nest_pointwise : (tree : List ℕ) (strong table row cell : Marks) (p : ℕ)
    → nest_opens tree strong table row cell p ≡ open_by (verdict tree strong p) (over (over (verdict tree table p) (verdict tree row p)) (verdict tree cell p))
unfolding nest_opens open_in_sets open_by
nest_pointwise tree strong table row cell p = ap₂ open_by (in_closed tree strong p) (in_weak tree table row cell p)

-- one label merged over what came down: it decides where it says anything
merged_says : (ud ua ld la : Bool) → cond ((ud && not la) || ld) false (ua || la) ≡ cond ld false (cond la true (cond ud false ua))
merged_says true true true true = refl
merged_says true true true false = refl
merged_says true true false true = refl
merged_says true true false false = refl
merged_says true false true true = refl
merged_says true false true false = refl
merged_says true false false true = refl
merged_says true false false false = refl
merged_says false true true true = refl
merged_says false true true false = refl
merged_says false true false true = refl
merged_says false true false false = refl
merged_says false false true true = refl
merged_says false false true false = refl
merged_says false false false true = refl
merged_says false false false false = refl

-- in words: of the strong label, the cell's, the row's and the table's weak one, asked in this order, the first that says anything of p
-- decides
pub first_decides : (tree : List ℕ) (strong table row cell : Marks) (p : ℕ)
    → nest_opens tree strong table row cell p ≡ first_said (verdict tree strong p ∷ verdict tree cell p ∷ verdict tree row p ∷ verdict tree table p ∷ [])
unfolding open_by over first_said
first_decides tree strong table row cell p =
    nest_pointwise tree strong table row cell p
    ∙ ap (λ (b : Bool). cond s.denied false (cond s.allowed true b)) (weakly ∙ ap (λ (b : Bool). cond c.denied false (cond c.allowed true b)) (merged_says t.denied t.allowed r.denied r.allowed ∙ ap (λ (b : Bool). cond r.denied false (cond r.allowed true b)) (last t.denied t.allowed)))
  where
    s : Verdict
    s = verdict tree strong p

    t : Verdict
    t = verdict tree table p

    r : Verdict
    r = verdict tree row p

    c : Verdict
    c = verdict tree cell p

    last : (d a : Bool) → cond d false a ≡ cond d false (cond a true false)
    last true a = refl
    last false true = refl
    last false false = refl

    weakly : cond (over (over t r) c).denied false (over (over t r) c).allowed ≡ cond c.denied false (cond c.allowed true (cond (over t r).denied false (over t r).allowed))
    weakly = merged_says (over t r).denied (over t r).allowed c.denied c.allowed

-- with labels at cells alone a nest table is open where its cells' labels are
pub nest_alone : (tree : List ℕ) (l : Marks) (p : ℕ) → nest_opens tree unmarked unmarked unmarked l p ≡ opens tree l p
unfolding over open_by silent
nest_alone tree l p =
    nest_pointwise tree unmarked unmarked unmarked l p
    ∙ ap (λ (v : Verdict). open_by v (over (over v v) (verdict tree l p))) (verdict_none tree p)
    ∙ go (verdict tree l p).allowed (verdict tree l p).denied
    ∙ sym (opens_verdict tree l p)
  where
    go : (a d : Bool) → cond d false a ≡ (a && not d)
    go true true = refl
    go true false = refl
    go false true = refl
    go false false = refl

-- with no label at all a cell is closed to every purpose
pub nest_none : (tree : List ℕ) (p : ℕ) → nest_opens tree unmarked unmarked unmarked unmarked p ≡ false
unfolding over open_by silent
nest_none tree p = nest_pointwise tree unmarked unmarked unmarked unmarked p ∙ ap (λ (v : Verdict). open_by v (over (over v v) v)) (verdict_none tree p)

-- ---- purposes below

-- w is what is said of a purpose below the one of which v is said: no less is allowed of it, and no more denied
pub record Below (v w : Verdict) : Type 0 where
  pub allows : v.allowed ≡ true → w.allowed ≡ true
  pub denies : w.denied ≡ true → v.denied ≡ true

verdict_below : (tree : List ℕ) (l : Marks) (p q : ℕ) → in_tree tree p ≡ true → in_tree tree q ≡ true → descends tree q p ≡ true → Below (verdict tree l p) (verdict tree l q)
unfolding verdict
verdict_below tree l p q in_p in_q down = record {
  allows = λ h. and_both (in_tree tree q) _ in_q (allowed_down tree p q down l.allowed (and_right (in_tree tree p) _ h));
  denies = λ h. and_both (in_tree tree p) _ in_p (denied_up tree p q down l.denied (and_right (in_tree tree q) _ h));
}

over_below : (v v' w w' : Verdict) → Below v v' → Below w w' → Below (over v w) (over v' w')
unfolding over
over_below v v' w w' a b = record {
  allows = λ h. ⊎_elim (λ x. or_left v'.allowed w'.allowed (a.allows x)) (λ x. or_right v'.allowed w'.allowed (b.allows x)) (one_of v.allowed w.allowed h);
  denies = λ h. ⊎_elim (λ x. kept x) (λ x. or_right (v.denied && not w.allowed) w.denied (b.denies x)) (one_of (v'.denied && not w'.allowed) w'.denied h);
}
  where
    kept : (v'.denied && not w'.allowed) ≡ true → ((v.denied && not w.allowed) || w.denied) ≡ true
    kept x =
        or_left (v.denied && not w.allowed) w.denied
        (and_both v.denied (not w.allowed) (a.denies (and_left v'.denied (not w'.allowed) x))
        (ap not (never w.allowed (λ y. true≢false (sym (b.allows y) ∙ not-true w'.allowed (and_right v'.denied (not w'.allowed) x))))))

open_below : (v v' w w' : Verdict) → Below v v' → Below w w' → open_by v w ≡ true → open_by v' w' ≡ true
unfolding open_by
open_below v v' w w' a b h = go v'.denied v.denied v.allowed v'.allowed w'.denied w.denied a.denies a.allows b.denies h
  where
    go : (d' d x x' e' e : Bool) → (d' ≡ true → d ≡ true) → (x ≡ true → x' ≡ true) → (e' ≡ true → e ≡ true)
        → cond d false (cond x true (cond e false w.allowed)) ≡ true → cond d' false (cond x' true (cond e' false w'.allowed)) ≡ true
    go true true x x' e' e f g k h = h
    go true false x x' e' e f g k h = absurd (true≢false (sym (f refl)))
    go false true x x' e' e f g k h = absurd (true≢false (sym h))
    go false false x true e' e f g k h = refl
    go false false true false e' e f g k h = absurd (true≢false (sym (g refl)))
    go false false false false true true f g k h = h
    go false false false false true false f g k h = absurd (true≢false (sym (k refl)))
    go false false false false false true f g k h = absurd (true≢false (sym h))
    go false false false false false false f g k h = b.allows h

-- a cell of a nest table that is open to p is open to every purpose of the tree below p
pub nest_below : (tree : List ℕ) (strong table row cell : Marks) (p q : ℕ) → in_tree tree q ≡ true → descends tree q p ≡ true
    → nest_opens tree strong table row cell p ≡ true → nest_opens tree strong table row cell q ≡ true
nest_below tree strong table row cell p q in_q down h =
    let in_p : in_tree tree p ≡ true = lt-ltb p (length tree) (omega (arith, ancestor_le tree q p down, ltb-true q (length tree) in_q)) in
    let v : (l : Marks) → Below (verdict tree l p) (verdict tree l q) = λ l. verdict_below tree l p q in_p in_q down in
    nest_pointwise tree strong table row cell q
    ∙ open_below (verdict tree strong p) (verdict tree strong q) (over (over (verdict tree table p) (verdict tree row p)) (verdict tree cell p)) (over (over (verdict tree table q) (verdict tree row q)) (verdict tree cell q))
    (v strong) (over_below _ _ _ _ (over_below _ _ _ _ (v table) (v row)) (v cell)) (sym (nest_pointwise tree strong table row cell p) ∙ h)

-- ---- what the code tests

module _ (upper lower : Verdict) where
  pub over_allowed : lower.allowed ≡ true → record { allowed = true; denied = lower.denied } ≡ over upper lower
  unfolding over
  over_allowed h = λ i. record { allowed = sym (ap (λ (b : Bool). upper.allowed || b) h ∙ or-true upper.allowed) i; denied = sym (ap (λ (b : Bool). (upper.denied && not b) || lower.denied) h ∙ ap (λ (b : Bool). b || lower.denied) (and-false upper.denied)) i }

  pub over_denied : lower.allowed ≡ false → lower.denied ≡ true → record { allowed = upper.allowed; denied = true } ≡ over upper lower
  unfolding over
  over_denied h k = λ i. record { allowed = sym (ap (λ (b : Bool). upper.allowed || b) h ∙ or-false upper.allowed) i; denied = sym (ap (λ (b : Bool). (upper.denied && not lower.allowed) || b) k ∙ or-true (upper.denied && not lower.allowed)) i }

  pub over_nothing : lower.allowed ≡ false → lower.denied ≡ false → upper ≡ over upper lower
  unfolding over
  over_nothing h k = λ i. record { allowed = sym (ap (λ (b : Bool). upper.allowed || b) h ∙ or-false upper.allowed) i; denied = sym (ap₂ (λ (b x : Bool). (upper.denied && not b) || x) h k ∙ or-false (upper.denied && true) ∙ and-true upper.denied) i }

module _ (strong weak : Verdict) where
  pub open_denied : strong.denied ≡ true → false ≡ open_by strong weak
  unfolding open_by
  open_denied h = sym (ap (λ (b : Bool). cond b false (cond strong.allowed true (cond weak.denied false weak.allowed))) h)

  pub open_allowed : strong.denied ≡ false → strong.allowed ≡ true → true ≡ open_by strong weak
  unfolding open_by
  open_allowed h k = sym (ap₂ (λ (b x : Bool). cond b false (cond x true (cond weak.denied false weak.allowed))) h k)

  pub open_weakly : strong.denied ≡ false → strong.allowed ≡ false → cond weak.denied false weak.allowed ≡ open_by strong weak
  unfolding open_by
  open_weakly h k = sym (ap₂ (λ (b x : Bool). cond b false (cond x true (cond weak.denied false weak.allowed))) h k)
