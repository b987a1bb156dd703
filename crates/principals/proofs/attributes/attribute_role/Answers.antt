-- `principals::attributes::attribute_role` meets its contract: the clock's have no role, the others' stand in the array. Assumes nothing.
use mathlib.Core.Path.{ap, sym}
use native.Mathlib.Omega.{arith}
use Rattle.document.specs.Policy.{Attribute}
use Rattle.principals.proofs.AttributeLaws.{attribute_clock, attribute_there}
use Rattle.principals.specs.Attributes.{attribute_in}
use Rattle.principals.proofs.attributes.attribute_role.Goals as goal

pub returns-then-n-lt3 : goal.returns-then-n-lt3
returns-then-n-lt3 c text xs a h e = sym (attribute_clock h _ a e c.if-n-lt3.true).0

pub returns-then-j-ge-ATTRIBUTES : goal.returns-then-j-ge-ATTRIBUTES
returns-then-j-ge-ATTRIBUTES c text xs a h e = absurd (omega (arith, h.few, c.if-j-ge-ATTRIBUTES.true, (attribute_there h c.args.n a e (omega arith)).0))

pub returns : goal.returns
unfolding attribute_in
returns c text xs a h e = sym (ap (λ (x : Attribute). x.role) (attribute_there h c.args.n a e (omega arith)).1)
