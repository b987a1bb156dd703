-- `members::givens::role_attributes` meets its contract. The loop's invariant: n of the first i attributes in the array are the role's.
-- Assumes nothing.
use mathlib.Core.Path.{◌∙◌, ◌≡◌, ap, sym}
use native.Mathlib.Omega.{arith}
use Rattle.members.proofs.GivenLaws.{held_all, held_at, held_more, held_none, held_same, held_of}
use Rattle.principals.specs.Attributes.{attribute_in}
use Rattle.members.proofs.givens.role_attributes.Goals.{then-attribute_of_role, else-attribute_of_role}
use Rattle.members.proofs.givens.role_attributes.Goals as goal

pub returns-then-k-gt-ATTRIBUTES : goal.returns-then-k-gt-ATTRIBUTES
returns-then-k-gt-ATTRIBUTES c = λ text d m h. absurd (omega (arith, h.few))

pub loop-i-init : goal.loop-i-init
loop-i-init c = (omega arith, omega arith, omega arith, λ text d m h. sym (held_none d c.args.role text c.args.attributes.now))

pub overflow_add-n : goal.overflow_add-n
overflow_add-n c = omega arith

pub overflow_add-i : goal.overflow_add-i
overflow_add-i c = omega arith

pub loop-i-preserved : goal.loop-i-preserved
loop-i-preserved c = let entry = c.args in
    let i = c.loop-i.i in
    elim c.if-attribute_of_role.branch [
      | then-attribute_of_role v ↦ (omega arith, omega arith, omega arith, λ text d m h. omega (arith, v.n-is, held_more d entry.role text entry.attributes.now i (sym (c.attribute_of_role.ensures text d (attribute_in text entry.attributes.now i) m h (held_at d entry.role text entry.attributes.now entry.k h i (omega arith))) ∙ v.if-attribute_of_role.true), c.loop-i.invariant.3 text d m h))
      | else-attribute_of_role v ↦ (omega arith, omega arith, omega arith, λ text d m h. omega (arith, v.n-is, held_same d entry.role text entry.attributes.now i (sym (c.attribute_of_role.ensures text d (attribute_in text entry.attributes.now i) m h (held_at d entry.role text entry.attributes.now entry.k h i (omega arith))) ∙ v.if-attribute_of_role.false), c.loop-i.invariant.3 text d m h))
    ]

pub returns : goal.returns
returns c = let entry = c.args in λ text d m h. let e : c.loop-i.i ≡ entry.k = omega arith in c.loop-i.invariant.3 text d m h ∙ ap
    (held_of d entry.role text entry.attributes.now) e ∙ sym (held_all d entry.role text entry.attributes.now entry.k h)
