-- `authority::grants::first_grant` meets its contract. The invariants: no grant that was passed authorises the purpose; the way up from
-- the present role leads to the conditional role's exactly when that from the user's role does. Assumes nothing.
use Prim.Native.Nat.{◌<◌, ◌≤◌}
use borrow.Author.Count.{below_more, below_none}
use mathlib.Core.Path.{◌∙◌, ◌≡◌, ap, refl, subst, sym}
use native.Mathlib.Omega.{arith}
use Rattle.authority.proofs.GrantingLaws.{all_so, no_holding, no_purpose, no_role, none_found, one_found, told}
use Rattle.document.specs.Policy.{tree_of}
use Rattle.principals.proofs.NodeLaws.{way_ends, way_here, way_up}
use Rattle.workspace.specs.Found.{found_as}
use Rattle.purpose.specs.Compliance.{descends, parent}
use Rattle.authority.proofs.grants.first_grant.Goals.{then-is_above+then-holds_at+else-r-target+then-r-above, then-is_above+else-holds_at, else-is_above}
use Rattle.authority.proofs.grants.first_grant.Goals as goal

pub grants-init : goal.grants-init
grants-init c = (refl, λ t. below_none _)

pub roles-init : goal.roles-init
roles-init c = (refl, λ text ns n. refl)

pub roles-preserved : goal.roles-preserved
roles-preserved c = (
  c.roles.invariant.0,
  λ text ns n.
      let up : c.role_parent-above.result ≡ parent (tree_of ns) c.roles.r = c.role_parent-above.ensures text ns n in
      ap (λ y. descends (tree_of ns) y c.cond_role_role-target.result) up
      ∙ sym (way_up (tree_of ns) c.roles.r c.cond_role_role-target.result c.if-r-target.false (subst (λ y. y < c.roles.r) up c.if-r-above.false))
      ∙ c.roles.invariant.1 text ns n,
)

pub grants-preserved : goal.grants-preserved
grants-preserved c = let inv = c.grants.invariant in
    let i = c.grants.i in
    let small = c.grants-test.true in (
      elim c.if-is_above.branch [
        | then-is_above+then-holds_at+else-r-target+then-r-above w ↦ w.found-is ∙ w.roles.invariant.0 ∙ inv.0
        | then-is_above+else-holds_at w ↦ w.found-is ∙ inv.0
        | else-is_above w ↦ w.found-is ∙ inv.0
      ],
      λ t. below_more _ i (inv.1 t)
          (elim c.if-is_above.branch [
            | then-is_above+then-holds_at+else-r-target+then-r-above w ↦ no_role t i small w.grant_cond_role-c.result w.grant_cond_role-c.ensures w.cond_role_role-target.result w.cond_role_role-target.ensures
                (sym (w.roles.invariant.1 t.text t.d.roles t.nodes)
                ∙ way_ends (tree_of t.d.roles) w.roles.r w.cond_role_role-target.result w.if-r-target.false (subst (λ y. w.roles.r ≤ y) (w.role_parent-above.ensures t.text t.d.roles t.nodes) w.if-r-above.true))
            | then-is_above+else-holds_at w ↦ no_holding t i small w.grant_cond_role-c.result w.grant_cond_role-c.ensures w.holds_at.result w.holds_at.ensures w.if-holds_at.false
            | else-is_above w ↦ no_purpose t i small c.grant_purpose.result c.grant_purpose.ensures (sym c.is_above.ensures ∙ w.if-is_above.false)
          ]),
    )

pub returns-after-grants : goal.returns-after-grants
returns-after-grants c d text k u p nodes conditions given near inside truths acting = let t = told d text k u p nodes conditions given near inside truths acting in
    ap found_as c.grants.invariant.0 ∙ none_found t (λ j l. c.grants.invariant.1 t j (omega (arith, l)))

pub returns-then-r-target : goal.returns-then-r-target
returns-then-r-target c d text k u p nodes conditions given near inside truths acting = let t = told d text k u p nodes conditions given near inside truths acting in
    let i = c.grants.i in
    let small = c.grants-test.true in
    one_found t i small (c.grants.invariant.1 t)
    (all_so t i small c.grant_cond_role-c.result c.grant_cond_role-c.ensures c.cond_role_role-target.result c.cond_role_role-target.ensures
    c.grant_purpose.result c.grant_purpose.ensures (sym c.is_above.ensures ∙ c.if-is_above.true)
    c.holds_at.result c.holds_at.ensures c.if-holds_at.true
    (sym (c.roles.invariant.1 text d.roles nodes) ∙ way_here (tree_of d.roles) c.roles.r c.cond_role_role-target.result c.if-r-target.true))
