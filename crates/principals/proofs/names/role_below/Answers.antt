-- `principals::names::role_below` meets its contract. The loop's invariant: the way up from the present role leads to a exactly when the
-- way up from r does. Assumes nothing.
use Prim.Native.Nat.{◌+◌, ◌<◌, ◌≤◌}
use lib.ListN.{get_or}
use mathlib.Core.Path.{◌∙◌, ◌≡◌, ap, refl, subst, sym}
use native.Mathlib.Omega.{arith}
use Rattle.document.specs.Policy.{tree_of}
use Rattle.principals.proofs.NodeLaws.{tree_length, tree_parent, way_ends, way_here, way_up}
use Rattle.purpose.proofs.Ancestry.{descends_outside}
use Rattle.purpose.specs.Compliance.{descends, parent}
use Rattle.principals.proofs.names.role_below.Goals as goal

pub returns-then-k-gt-ROLES : goal.returns-then-k-gt-ROLES
returns-then-k-gt-ROLES c text ns n = absurd (omega (arith, n.few))

pub loop-x-init : goal.loop-x-init
loop-x-init c text ns n = refl

pub returns-then-x-a : goal.returns-then-x-a
returns-then-x-a c text ns n = sym (way_here (tree_of ns) _ _ c.if-x-a.true) ∙ c.loop-x.invariant text ns n

pub overflow_add-above : goal.overflow_add-above
overflow_add-above c = omega arith

pub offset_bounds-ws-x : goal.offset_bounds-ws-x
offset_bounds-ws-x c = omega arith

pub bounds-ws-x : goal.bounds-ws-x
bounds-ws-x c = omega arith

pub returns-then-x-above : goal.returns-then-x-above
returns-then-x-above c text ns n = let up : parent (tree_of ns) c.loop-x.x ≡ get_or c.args.ws.now (64 + c.loop-x.x) 0 = tree_parent n c.loop-x.x (omega arith) in
    sym (way_ends (tree_of ns) c.loop-x.x c.args.a c.if-x-a.false (subst (λ y. c.loop-x.x ≤ y) (sym up) c.if-x-above.true)) ∙ c.loop-x.invariant text ns n

pub loop-x-smaller : goal.loop-x-smaller
loop-x-smaller c = omega arith

pub loop-x-preserved : goal.loop-x-preserved
loop-x-preserved c text ns n = let up : parent (tree_of ns) c.loop-x.x ≡ get_or c.args.ws.now (64 + c.loop-x.x) 0 = tree_parent n c.loop-x.x (omega arith) in
    ap (λ y. descends (tree_of ns) y c.args.a) (sym up)
    ∙ sym (way_up (tree_of ns) c.loop-x.x c.args.a c.if-x-a.false (subst (λ y. y < c.loop-x.x) (sym up) c.if-x-above.false))
    ∙ c.loop-x.invariant text ns n

pub returns : goal.returns
returns c text ns n = sym (descends_outside (tree_of ns) _ _ (omega (arith, tree_length n))) ∙ c.loop-x.invariant text ns n
