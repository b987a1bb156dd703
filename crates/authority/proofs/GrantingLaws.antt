-- When a grant authorises, by what the arrays hold, and which grant is the first. Assumes nothing.
use Prim.Native.Nat.{◌<◌, ◌≤◌, suc, zero, ℕ}
use lib.ListN.{get_elem?, length}
use mathlib.Core.Bool.{Bool, ◌&&◌, and-false, false, true}
use mathlib.Core.List.{List, [], ◌∷◌}
use mathlib.Core.Option.{Option, none, some}
use mathlib.Core.Path.{◌∙◌, ◌≡◌, ap, refl, sym}
use native.Mathlib.Omega.{arith}
use Rattle.belonging.specs.Held.{Held, condition_holds}
use Rattle.document.specs.Policy.{CondRole, Grant, Policy, User, tree_of}
use Rattle.principals.proofs.IndexLaws.{conds_length}
use Rattle.workspace.proofs.TabulatedLaws.{tabulated_at, tabulated_found, tabulated_none, tabulated_there}
use Rattle.principals.specs.CondRoles.{CondRoles, cond_role_in, cond_role_role_in}
use Rattle.principals.specs.Grants.{Grants, grant_in}
use Rattle.principals.specs.Nodes.{Nodes}
use Rattle.lists.proofs.ListLaws.{holds_of_some}
use Rattle.lists.proofs.Tests.{and_both}
use Rattle.lists.specs.Lists.{find_index, holds_of}
use Rattle.purpose.proofs.Compliance.{above_descends}
use Rattle.purpose.specs.Compliance.{descends, in_tree}
use Rattle.purpose.specs.Meaning.{ClosureOf, is_above}
use Rattle.purpose.specs.declared.Closure.{Closure}
use Rattle.query.specs.Authority.{Clock, authorises, belongs}

-- ---- the truth at a number

pub nothing_there : {A : Type 0} (f : A → Bool) (xs : List A) (i : ℕ) → length xs ≤ i → holds_of f (get_elem? xs i) ≡ false
unfolding holds_of
nothing_there f [] i l = refl
nothing_there f (x ∷ xs) zero l = absurd (omega (arith, l))
nothing_there f (x ∷ xs) (suc i) l = nothing_there f xs i (omega (arith, l))

pub truth_there : {A : Type 0} (f : A → Bool) (b : Bool) (xs : List A) (i : ℕ) → i < length xs → ((x : A) → get_elem? xs i ≡ some x → b ≡ f x) → b ≡ holds_of f (get_elem? xs i)
unfolding holds_of
truth_there f b [] i l h = absurd (omega (arith, l))
truth_there f b (x ∷ xs) zero l h = h x refl
truth_there f b (x ∷ xs) (suc i) l h = truth_there f b xs i (omega (arith, l)) h

-- ---- a grant of the policy

module _ (d : Policy) (c : Clock) (u : User) (p : ℕ) (g : Grant) where
  not_above : descends (tree_of d.purposes) p g.purpose ≡ false → authorises d c u p g ≡ false
  unfolding authorises
  not_above e = ap (λ (b : Bool). b && holds_of (belongs d c u) (get_elem? d.cond_roles g.cond_role)) e

  not_held : holds_of (condition_holds c u) (get_elem? d.cond_roles g.cond_role) ≡ false → authorises d c u p g ≡ false
  unfolding authorises belongs holds_of condition_holds
  not_held e = ap (λ (b : Bool). descends (tree_of d.purposes) p g.purpose && b) (go (get_elem? d.cond_roles g.cond_role) e) ∙ and-false (descends (tree_of d.purposes) p g.purpose)
    where
      go : (o : Option CondRole) → holds_of (condition_holds c u) o ≡ false → holds_of (belongs d c u) o ≡ false
      go none h = refl
      go (some r) h = ap (λ (b : Bool). descends (tree_of d.roles) u.role r.role && b) h ∙ and-false (descends (tree_of d.roles) u.role r.role)

  module _ (target : ℕ) (is : (r : CondRole) → get_elem? d.cond_roles g.cond_role ≡ some r → r.role ≡ target) where
    not_below : descends (tree_of d.roles) u.role target ≡ false → authorises d c u p g ≡ false
    unfolding authorises belongs holds_of
    not_below e = ap (λ (b : Bool). descends (tree_of d.purposes) p g.purpose && b) (go (get_elem? d.cond_roles g.cond_role) refl) ∙ and-false (descends (tree_of d.purposes) p g.purpose)
      where
        go : (o : Option CondRole) → get_elem? d.cond_roles g.cond_role ≡ o → holds_of (belongs d c u) o ≡ false
        go none q = refl
        go (some r) q = rw (is r q, e)

    authorised : descends (tree_of d.purposes) p g.purpose ≡ true → holds_of (condition_holds c u) (get_elem? d.cond_roles g.cond_role) ≡ true
        → descends (tree_of d.roles) u.role target ≡ true → authorises d c u p g ≡ true
    unfolding authorises belongs holds_of condition_holds
    authorised a h e =
        let w = holds_of_some (condition_holds c u) (get_elem? d.cond_roles g.cond_role) h in
        and_both _ _ a
        (ap (holds_of (belongs d c u)) w.1
        ∙ and_both _ _ (ap (descends (tree_of d.roles) u.role) (is w.0 w.1) ∙ e) w.2)

-- ---- what the arrays hold

-- what first_grant is told of the document
pub record Told (closure : Closure) (roles : List ℕ) (rcount : ℕ) (conds : List ℕ) (ccount : ℕ) (grants : List ℕ) (gcount : ℕ) (held : List Bool) (role : ℕ) : Type 0 where
  pub d : Policy
  pub text : List ℕ
  pub clock : Clock
  pub u : User
  pub p : ℕ
  pub nodes : Nodes 64 text roles rcount d.roles
  pub conditions : CondRoles d text conds ccount d.cond_roles
  pub given : Grants grants gcount d.grants
  pub above : (a : ℕ) → is_above closure a ≡ descends (tree_of d.purposes) p a
  pub truths : Held clock u d.cond_roles held
  pub acting : role ≡ u.role

-- in the tree, what stands above by the closure is what the purpose descends from
pub above_of : (tree : List ℕ) (p : ℕ) (c : Closure) → ClosureOf tree p c → in_tree tree p ≡ true → (a : ℕ) → is_above c a ≡ descends tree p a
above_of tree p c h e a = above_descends tree p c a h ∙ ap (λ (b : Bool). b && descends tree p a) e

-- what its contract is told is all of it
abbrev pub told : {closure : Closure} {roles : List ℕ} {rcount : ℕ} {conds : List ℕ} {ccount : ℕ} {grants : List ℕ} {gcount : ℕ} {held : List Bool} {role : ℕ}
    (d : Policy) (text : List ℕ) (c : Clock) (u : User) (p : ℕ) → Nodes 64 text roles rcount d.roles → CondRoles d text conds ccount d.cond_roles
    → Grants grants gcount d.grants → ClosureOf (tree_of d.purposes) p closure → in_tree (tree_of d.purposes) p ≡ true → Held c u d.cond_roles held
    → role ≡ u.role → Told closure roles rcount conds ccount grants gcount held role
told {closure = k} d text c u p nodes conditions given near inside truths acting = record {
  d = d;
  text = text;
  clock = c;
  u = u;
  p = p;
  nodes = nodes;
  conditions = conditions;
  given = given;
  above = above_of (tree_of d.purposes) p k near inside;
  truths = truths;
  acting = acting;
}

-- what is read of grant i, and whether the condition of conditional role r holds, as the code says it
abbrev PurposeRead : List ℕ → ℕ → ℕ → Type 0
PurposeRead ws i q = (k : ℕ) (gs : List Grant) (g : Grant) → Grants ws k gs → get_elem? gs i ≡ some g → q ≡ g.purpose

abbrev RoleRead : List ℕ → ℕ → ℕ → Type 0
RoleRead ws i r = (k : ℕ) (gs : List Grant) (g : Grant) → Grants ws k gs → get_elem? gs i ≡ some g → r ≡ g.cond_role

abbrev HeldRead : List Bool → ℕ → ℕ → Bool → Type 0
HeldRead truths k r b = (c : Clock) (v : User) (rs : List CondRole) → length rs ≡ k → k ≤ 64 → Held c v rs truths → b ≡ holds_of (condition_holds c v) (get_elem? rs r)

module _ {closure : Closure} {roles : List ℕ} {rcount : ℕ} {conds : List ℕ} {ccount : ℕ} {grants : List ℕ} {gcount : ℕ} {held : List Bool} {role : ℕ} (t : Told closure roles rcount conds ccount grants gcount held role) where
  -- grant i authorises the purpose
  abbrev pub passes : ℕ → Bool
  passes i = authorises t.d t.clock t.u t.p (grant_in grants i)

  -- none of the grants is found, or the first that passes
  pub none_found : ((j : ℕ) → j < gcount → passes j ≡ false) → none ≡ find_index (authorises t.d t.clock t.u t.p) t.d.grants
  none_found h =
      let f : Grant → Bool = authorises t.d t.clock t.u t.p in
      sym (tabulated_none f (grant_in grants) gcount h) ∙ ap (find_index f) t.given.are

  pub one_found : (i : ℕ) → i < gcount → ((j : ℕ) → j < i → passes j ≡ false) → passes i ≡ true → some i ≡ find_index (authorises t.d t.clock t.u t.p) t.d.grants
  one_found i l h e =
      let f : Grant → Bool = authorises t.d t.clock t.u t.p in
      sym (tabulated_found f (grant_in grants) gcount i l h e) ∙ ap (find_index f) t.given.are

  module _ (i : ℕ) (l : i < gcount) where
    here : get_elem? t.d.grants i ≡ some (grant_in grants i)
    here = ap (λ gs. get_elem? gs i) (sym t.given.are) ∙ tabulated_at (grant_in grants) gcount i l

    above_is : (q : ℕ) → PurposeRead grants i q → is_above closure q ≡ descends (tree_of t.d.purposes) t.p (grant_in grants i).purpose
    above_is q of =
        ap (λ x. is_above closure x) (of gcount t.d.grants (grant_in grants i) t.given here) ∙ t.above (grant_in grants i).purpose

    -- its purpose is not above the one asked for
    pub no_purpose : (q : ℕ) → PurposeRead grants i q → is_above closure q ≡ false → passes i ≡ false
    no_purpose q of e = not_above t.d t.clock t.u t.p (grant_in grants i) (sym (above_is q of) ∙ e)

    module _ (r : ℕ) (of : RoleRead grants i r) where
      role_is : r ≡ (grant_in grants i).cond_role
      role_is = of gcount t.d.grants (grant_in grants i) t.given here

      holds_is : (b : Bool) → HeldRead held ccount r b → b ≡ holds_of (condition_holds t.clock t.u) (get_elem? t.d.cond_roles (grant_in grants i).cond_role)
      holds_is b h =
          h t.clock t.u t.d.cond_roles (conds_length t.conditions) t.conditions.few t.truths
          ∙ ap (λ n. holds_of (condition_holds t.clock t.u) (get_elem? t.d.cond_roles n)) role_is

      -- its condition does not hold
      pub no_holding : (b : Bool) → HeldRead held ccount r b → b ≡ false → passes i ≡ false
      no_holding b h e = not_held t.d t.clock t.u t.p (grant_in grants i) (sym (holds_is b h) ∙ e)

      module _ (target : ℕ) (is : r < 64 → target ≡ cond_role_role_in conds r) where
        target_is : (x : CondRole) → get_elem? t.d.cond_roles (grant_in grants i).cond_role ≡ some x → x.role ≡ target
        unfolding cond_role_in
        target_is x e =
            let w = tabulated_there (cond_role_in t.d t.text conds) ccount (grant_in grants i).cond_role x (ap (λ xs. get_elem? xs (grant_in grants i).cond_role) t.conditions.are ∙ e) in
            let small : r < 64 = omega (arith, w.0, role_is, t.conditions.few) in
            ap (λ y. y.role) w.1 ∙ ap (λ n. cond_role_role_in conds n) (sym role_is) ∙ sym (is small)

        -- the role is not below its conditional role's
        pub no_role : descends (tree_of t.d.roles) role target ≡ false → passes i ≡ false
        no_role e =
            not_below t.d t.clock t.u t.p (grant_in grants i) target target_is
            (ap (λ x. descends (tree_of t.d.roles) x target) (sym t.acting) ∙ e)

        -- all of it is so
        pub all_so : (q : ℕ) → PurposeRead grants i q → is_above closure q ≡ true → (b : Bool) → HeldRead held ccount r b → b ≡ true
            → descends (tree_of t.d.roles) role target ≡ true → passes i ≡ true
        all_so q of_purpose a b h held_so e =
            authorised t.d t.clock t.u t.p (grant_in grants i) target target_is
            (sym (above_is q of_purpose) ∙ a)
            (sym (holds_is b h) ∙ held_so)
            (ap (λ x. descends (tree_of t.d.roles) x target) (sym t.acting) ∙ e)
