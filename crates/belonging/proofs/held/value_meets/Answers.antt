-- `belonging::held::value_meets` meets its contract: the value stands where its place is stored. Assumes nothing.
use mathlib.Core.Path.{◌∙◌, ap}
use native.Mathlib.Omega.{arith}
use Rattle.belonging.proofs.HeldLaws.{attribute_below, user_none, user_some}
use Rattle.condition.specs.Answers.{kind_of, op_of}
use Rattle.condition.specs.Comparison.{values_meet}
use Rattle.lists.specs.Lists.{holds_of}
use Rattle.query.specs.Authority.{user_value}
use Rattle.text.specs.Words.{written_at}
use Rattle.belonging.proofs.held.value_meets.Goals as goal

pub returns-then-p-eq0 : goal.returns-then-p-eq0
returns-then-p-eq0 c text d u a h v e = user_none c.args.user.now c.args.values.now u v c.args.n c.if-n-lt-VALUES.true (λ w. values_meet a.kind (op_of c.args.op) w (written_at c.args.line.now c.args.v)) c.if-p-eq0.true

pub returns-then-n-lt-VALUES : goal.returns-then-n-lt-VALUES
returns-then-n-lt-VALUES c text d u a h v e = let x = c.args in
    let k = c.attribute_kind-kind.ensures text d.attributes a h e in
    c.values_meet.ensures
    ∙ user_some x.user.now x.values.now u v x.n c.if-n-lt-VALUES.true (λ w. values_meet (kind_of c.attribute_kind-kind.result) (op_of x.op) w (written_at x.line.now x.v)) c.if-p-eq0.false
    ∙ ap (λ t. holds_of (λ w. values_meet t (op_of x.op) w (written_at x.line.now x.v)) (user_value u x.n)) k

pub returns : goal.returns
returns c text d u a h v e = absurd (omega (arith, attribute_below text c.args.attributes.now c.args.acount d.attributes c.args.n a h e))
