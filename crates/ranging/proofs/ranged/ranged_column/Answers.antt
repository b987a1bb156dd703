-- `ranging::ranged::ranged_column` meets its contract. Assumes nothing.
use mathlib.Core.Bool.{Bool, cond}
use mathlib.Core.Option.{none}
use mathlib.Core.Path.{◌∙◌, ap, sym}
use native.Mathlib.Omega.{arith}
use Rattle.query.specs.Naming.{words_at}
use Rattle.ranging.specs.Promises.{plain_at}
use Rattle.text.specs.Offending.{missing}
use Rattle.ranging.proofs.ranged.ranged_column.Goals as goal

pub returns-then-taken : goal.returns-then-taken
returns-then-taken c d s h l e = let a = c.args in sym (ap (λ (b : Bool). cond b none (missing (plain_at d a.t) (words_at s a.n a.places.now))) c.if-taken.true)

pub returns : goal.returns
returns c d s h l e = let a = c.args in
    c.first_ranged.ensures d s h (omega (arith, l)) (omega (arith, l)) e
    ∙ sym (ap (λ (b : Bool). cond b none (missing (plain_at d a.t) (words_at s a.n a.places.now))) c.if-taken.false)
