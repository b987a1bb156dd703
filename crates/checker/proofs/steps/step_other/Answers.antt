-- `checker::steps::step_other` meets its contract: a purpose that one walk takes is added, and any other line is answered by its form.
-- Assumes nothing.
use Prim.Native.Nat.{ℕ}
use mathlib.Core.Bool.{Bool, false, true}
use mathlib.Core.List.{List}
use mathlib.Core.Path.{◌∙◌, ◌≡◌, subst}
use native.Mathlib.Omega.{arith}
use Rattle.stepping.proofs.Growing.{grow_purpose, keep_purposes}
use Rattle.stepping.proofs.Judgements.{follows_goes, line_form}
use Rattle.walks.specs.PurposeLine.{PurposeTaken, TakesPurpose}
use Rattle.document.specs.Policy.{Doc}
use Rattle.principals.specs.Nodes.{Nodes}
use Rattle.purpose.specs.Members.{limit}
use Rattle.checker.proofs.steps.step_other.Goals as goal

-- what the answer says of the line, where it says yes, and where it says no
taken : (text line after : List ℕ) (k : ℕ) (d : Doc) (r : Bool) → r ≡ true → TakesPurpose text line after k d r → PurposeTaken text line after k d
taken text line after k d r e h = subst (TakesPurpose text line after k d) e h

left : (text line after : List ℕ) (k : ℕ) (d : Doc) (r : Bool) → r ≡ false → TakesPurpose text line after k d r → Nodes limit text after k d.policy.purposes
left text line after k d r e h = subst (TakesPurpose text line after k d) e h

pub take_purpose-requires : goal.take_purpose-requires
take_purpose-requires c = tt

pub overflow_add-next : goal.overflow_add-next
overflow_add-next c = omega (arith, c.take_purpose.ensures.1 c.if-take_purpose.true)

pub returns-then-take_purpose : goal.returns-then-take_purpose
returns-then-take_purpose c = λ d a I U.
    let t = taken _ _ _ _ d _ c.if-take_purpose.true (c.take_purpose.ensures.0 d a I.purposes) in
    follows_goes (record { doc = _; is = line_form d c.args.line.now _ t.form ∙ t.passes; held = grow_purpose I _ _ _ t.purposes })

pub step_form-requires : goal.step_form-requires
step_form-requires c = tt

pub returns : goal.returns
returns c = λ d a I U.
    c.step_form.ensures d a
    (keep_purposes I _ (left _ _ _ _ d _ c.if-take_purpose.false (c.take_purpose.ensures.0 d a I.purposes))) U
